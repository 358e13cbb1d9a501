use Rattle.std.proofs.Common.{List, map, ap, ◌∙◌, Bor}
use Rattle.mcs_system.specs.Seen.{formula_of}
use Rattle.mcs_system.specs.declared.formula.Formula as code
use Rattle.mcs_classical.proofs.ConsequenceLemmas.{assumed_over}
use Rattle.mcs_classical.proofs.adding.add_assumed.Goals as goal

pub add_formulas-added-requires-clause-over : goal.add_formulas-added-requires-clause-over
add_formulas-added-requires-clause-over c =
    let same = ap (λ (fs : List (Bor code.Formula)). map (λ f. formula_of f.now) fs) c.deref.ensures.value ∙ c.in_ok-formulas.ensures in
    rw same (assumed_over c.args.given.now.asked.now.atoms.now c.args.set c.args.given.now.assumptions.now c.args.given.now.over)
