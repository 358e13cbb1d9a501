use Rattle.mcs_engine.specs.Stores.{IsLaterGround}
use Rattle.mcs_engine.proofs.StoreLemmas.{later-ground, later-levels}
use Rattle.mcs_sat.proofs.base.learn_beforehand.Goals.{After-attach, After-search_left-searched}
use Rattle.mcs_sat.proofs.base.learn_beforehand.Goals as goal

searched : (c : After-search_left-searched) → IsLaterGround c.args.state.now c.search_left-searched.new.state
searched c = later-ground c.args.state.now c.flatten_from.new.state c.search_left-searched.new.state c.flatten_from.ensures.later.later c.search_left-searched.ensures

attached : (c : After-attach) → IsLaterGround c.args.state.now c.search_left-searched.new.state → IsLaterGround c.args.state.now c.attach.new.state
attached c before = later-levels c.args.state.now c.search_left-searched.new.state c.attach.new.state before c.attach.ensures.same.same

pub returns-in_err-searched-clause-later : goal.returns-in_err-searched-clause-later
returns-in_err-searched-clause-later c = searched (goal.at.returns-in_err-searched-clause-later c).After-search_left-searched

pub returns-in_err-attach-clause-later : goal.returns-in_err-attach-clause-later
returns-in_err-attach-clause-later c =
    let at = goal.at.returns-in_err-attach-clause-later c in
    attached at.After-attach (searched at.After-search_left-searched)

pub returns-clause-later : goal.returns-clause-later
returns-clause-later c =
    let at = goal.at.returns-clause-later c in
    attached at.After-attach (searched at.After-search_left-searched)
