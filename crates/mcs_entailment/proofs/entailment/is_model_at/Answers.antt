use Rattle.std.proofs.Common.{map}
use Rattle.mcs_base.proofs.Booleans.{false_tells}
use Rattle.mcs_system.specs.Seen.{formula_of}
use Rattle.std.proofs.lemmas.Bool.{iff_false}
use Rattle.mcs_entailment.proofs.ShownLemmas.{model_iff}
use Rattle.mcs_entailment.proofs.entailment.is_model_at.Goals as goal

pub returns-then-not-is_in_range : goal.returns-then-not-is_in_range
returns-then-not-is_in_range c = false_tells (λ h. iff_false c.is_in_range.ensures c.if-not-is_in_range.true h.in_range)

pub returns : goal.returns
returns c =
    model_iff c.args.asked.now.atoms.now (map (λ f. formula_of f.now) c.args.premises.now) c.args.places c.numbered-values.result c.hold_at.result c.numbered-values.ensures c.hold_at.ensures
    (c.is_in_range.ensures.0 c.if-not-is_in_range.false)
