use Rattle.std.proofs.Common.{slice_get, sym, ap, subst, ◌∙◌}
use Rattle.mcs_base.proofs.Mapped.{slice_get-map_read}
use Rattle.mcs_system.specs.Equality.{same_formula-is}
use Rattle.mcs_system.specs.Logic.{Entails}
use Rattle.mcs_system.specs.Seen.{default_of, formula_of}
use Rattle.mcs_evidence.specs.Defaults.{generated}
use Rattle.mcs_evidence.proofs.DefaultLemmas.{conclusion_follows}
use Rattle.mcs_default.proofs.questions.is_consequent.Goals as goal

pub returns-then-same_formula : goal.returns-then-same_formula
returns-then-same_formula c items same _ =
    let i = c.loop-index.index in
    let d = c.index-defaults-index.result in
    let at = ap (λ ds. slice_get ds i) (sym same) ∙ slice_get-map_read (λ d'. default_of d'.now) c.args.theory.now.defaults.now i d c.loop-index-test.true c.index-defaults-index.is in
    subst (Entails (generated items c.args.set)) (same_formula-is (formula_of d.now.conclusion) (formula_of c.args.formula.now) (sym c.same_formula.ensures ∙ c.if-same_formula.true))
    (conclusion_follows items c.args.set i (default_of d.now) at (sym c.has.ensures.value ∙ c.if-has.true))
