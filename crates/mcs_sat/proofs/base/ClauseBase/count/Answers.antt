use Rattle.std.proofs.Common.{◌∙◌, ap, length}
use Rattle.mcs_trace.specs.Clauses.{ClauseList}
use Rattle.mcs_engine.proofs.StoreLemmas.{base-count}
use Rattle.mcs_sat.proofs.base.ClauseBase.count.Goals as goal

pub returns : goal.returns
returns c =
    let b = c.self.inside in
    c.given.ensures ∙ base-count b.state b.vars c.self.invariant ∙ ap (λ (f : ClauseList). length f.clauses) c.self.view_is
