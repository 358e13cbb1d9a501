use Rattle.std.proofs.Common.{◌∙◌, List, ℕ, sym, subst}
use Rattle.mcs_system.specs.Plain.{System}
use Rattle.mcs_states.specs.Evaluators.{AreRepairs}
use Rattle.mcs_recall.specs.Shown.{AreShown}
use Rattle.mcs_recall.proofs.recalling.RecallingEvaluator.repairs.Goals as goal

pub invariant_of-self-2 : goal.invariant_of-self-2
invariant_of-self-2 g c =
    let now = (g.E.Evaluator.stands c.repairs.new.self).system in
    let same = c.in_ok-pairs.ensures.rest.system in
    let listing = subst (λ (m : System). AreRepairs m c.args.level c.in_ok-pairs.pairs.items) (sym same) c.in_ok-pairs.ensures.listing in (
      c.self.invariant.0 ∙ sym same,
      record {
        shown = subst (λ (m : System). AreShown m c.self.inside.told.shown.items) (sym same) c.self.invariant.1.shown;
        repairs = c.kept_repairs.ensures now (subst (λ (ps : List ℕ). AreRepairs now c.args.level ps) (sym c.deref.ensures.value) listing);
      },
    )
