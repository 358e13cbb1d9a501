use Rattle.std.proofs.Common.{map}
use Rattle.mcs_base.proofs.Booleans.{false_tells}
use Rattle.mcs_system.specs.Seen.{formula_of}
use Rattle.std.proofs.lemmas.Bool.{iff_false}
use Rattle.mcs_entailment.proofs.ShownLemmas.{refuted_iff}
use Rattle.mcs_entailment.proofs.entailment.is_refuted_at.Goals as goal

pub returns-then-not-is_model_at : goal.returns-then-not-is_model_at
returns-then-not-is_model_at c = false_tells (λ h. iff_false c.is_model_at.ensures c.if-not-is_model_at.true h.model)

pub returns : goal.returns
returns c =
    refuted_iff c.args.asked.now.atoms.now (map (λ f. formula_of f.now) c.args.premises.now) (formula_of c.args.goal.now) c.args.places c.numbered.result c.holds_at.result c.numbered.ensures c.holds_at.ensures
    (c.is_model_at.ensures.0 c.if-not-is_model_at.false)
