use Rattle.std.proofs.Common.{sym, subst, ◌∙◌, map}
use Rattle.mcs_base.proofs.Each.{all_get}
use Rattle.mcs_base.proofs.Mapped.{slice_get-map_read}
use Rattle.mcs_system.specs.Equality.{same_formula-is}
use Rattle.mcs_system.specs.Logic.{Entails}
use Rattle.mcs_system.specs.Seen.{formula_of}
use Rattle.mcs_default.proofs.said.is_said.Goals as goal

pub returns-then-same_formula : goal.returns-then-same_formula
returns-then-same_formula c fs all _ =
    let x = c.other-item.result in
    subst (Entails fs) (same_formula-is (formula_of x.now) (formula_of c.args.formula.now) (sym c.same_formula.ensures ∙ c.if-same_formula.true))
    (all_get (Entails fs) (map (λ f. formula_of f.now) c.args.said.now) c.loop-other.other-index (formula_of x.now) all
    (slice_get-map_read (λ f. formula_of f.now) c.args.said.now c.loop-other.other-index x c.loop-other-test.true c.other-item.is))
