use Rattle.std.proofs.Common.{◌∙◌, ℤ, List, ap, take}
use Rattle.mcs_trace.specs.Clauses.{ClauseList}
use Rattle.mcs_sat.proofs.base.ClauseBase.cut.Goals as goal

pub returns : goal.returns
returns c =
    let b = c.self.inside in
    ap (λ (cs : List (List ℤ)). (let f : ClauseList = record { vars = c.args.vars; clauses = cs } in f)) (c.leave_first.ensures.clauses ∙ ap (λ (f : ClauseList). take c.args.count f.clauses) c.self.view_is)
