use Rattle.std.proofs.Common.{◌∙◌}
use Rattle.mcs_engine.proofs.StoreLemmas.{base-later, base-list}
use Rattle.mcs_sat.proofs.base.ClauseBase.settle.Goals as goal

pub invariant_of-self : goal.invariant_of-self
invariant_of-self c =
    let b = c.self.inside in
    base-later b.state c.settle_state.new.state b.vars c.self.invariant c.settle_state.ensures

pub returns : goal.returns
returns c =
    let b = c.self.inside in
    base-list b.state c.settle_state.new.state b.vars c.self.invariant.state c.settle_state.ensures.later ∙ c.self.view_is
