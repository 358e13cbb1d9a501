use Rattle.std.proofs.Common.{◌∙◌, ap, sym}
use Rattle.std.proofs.lemmas.Result.{IfOk-weaker}
use Rattle.mcs_system.specs.Plain.{Not}
use Rattle.mcs_system.specs.Seen.{formula_of}
use Rattle.mcs_system.proofs.DenialLemmas.{copied_whole}
use Rattle.mcs_system.proofs.formula.+copy.Goals as goal

pub Formula::copy-returns-in_ok-core-in-Not : goal.Formula::copy-returns-in_ok-core-in-Not
Formula::copy-returns-in_ok-core-in-Not t c =
    IfOk-weaker c.with_denials.result _ _
    (λ f with. copied_whole (formula_of c.args.self.now) (formula_of c.deref.result.now) (formula_of c.in_ok-core-in-Not.core) (formula_of f)
    (ap formula_of c.in-Not.is ∙ ap (λ g. Not (formula_of g)) (sym c.deref.ensures)) (c.in_ok-core-in-Not.ensures ∙ c.denied.ensures.denied) with)
    c.with_denials.ensures
