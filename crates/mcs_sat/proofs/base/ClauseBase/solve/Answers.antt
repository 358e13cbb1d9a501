use Rattle.std.proofs.Common.{◌∙◌}
use Rattle.mcs_engine.specs.Stores.{IsLaterGround}
use Rattle.mcs_engine.proofs.StoreLemmas.{base-later, base-list, later-ground}
use Rattle.mcs_sat.proofs.base.ClauseBase.solve.Goals.{After-go_back}
use Rattle.mcs_sat.proofs.base.ClauseBase.solve.Goals as goal

later : (c : After-go_back) → IsLaterGround c.self.inside.state c.go_back.new.state
later c = later-ground c.self.inside.state c.outcome_of-outcome.new.state c.go_back.new.state c.outcome_of-outcome.ensures.later c.go_back.ensures

pub invariant_of-self : goal.invariant_of-self
invariant_of-self c = let b = c.self.inside in base-later b.state c.go_back.new.state b.vars c.self.invariant (later (goal.at.invariant_of-self c).After-go_back)

pub returns-clause-same : goal.returns-clause-same
returns-clause-same c = let b = c.self.inside in base-list b.state c.go_back.new.state b.vars c.self.invariant.state (later (goal.at.returns-clause-same c).After-go_back).later ∙ c.self.view_is
