use Rattle.mcs_engine.specs.Stores.{IsLaterGround}
use Rattle.mcs_engine.proofs.StoreLemmas.{later-ground, later-levels, later-same}
use Rattle.mcs_sat.proofs.base.settle_state.Goals.{After-learn_beforehand, After-run}
use Rattle.mcs_sat.proofs.base.settle_state.Goals as goal

-- what was learnt
flat : (c : After-learn_beforehand) → IsLaterGround c.args.state.now c.learn_beforehand.new.state
flat c = later-ground c.args.state.now c.settle_all.new.state c.learn_beforehand.new.state (later-same c.args.state.now c.settle_all.new.state c.settle_all.ensures.same.same) c.learn_beforehand.ensures.later

ran : (c : After-run) → IsLaterGround c.args.state.now c.learn_beforehand.new.state → IsLaterGround c.args.state.now c.run.new.state
ran c before = later-levels c.args.state.now c.learn_beforehand.new.state c.run.new.state before c.run.ensures.same

pub returns-in_err-learn_beforehand : goal.returns-in_err-learn_beforehand
returns-in_err-learn_beforehand c = flat (goal.at.returns-in_err-learn_beforehand c).After-learn_beforehand

pub returns-in_err-_found : goal.returns-in_err-_found
returns-in_err-_found c =
    let at = goal.at.returns-in_err-_found c in
    ran at.After-run (flat at.After-learn_beforehand)

pub returns : goal.returns
returns c =
    let at = goal.at.returns c in
    later-levels c.args.state.now c.run.new.state c.keep.new.state (ran at.After-run (flat at.After-learn_beforehand)) c.keep.ensures.same.same
