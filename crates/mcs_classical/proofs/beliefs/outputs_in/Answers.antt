use Rattle.std.proofs.Common.{◌≡◌, ◌∷◌, ℕ, List, [], Option, IfSome, ◌∙◌, refl, sym, subst, map}
use Rattle.mcs_system.specs.Plain.{Formula}
use Rattle.mcs_system.specs.Seen.{formula_of}
use Rattle.mcs_trace.specs.declared.certificate.Entail.{Entail}
use Rattle.mcs_cnf.specs.Entailments.{entailment_of, IsModelAt}
use Rattle.mcs_cnf.specs.Classical.{IsAcceptedClassical}
use Rattle.mcs_cnf.specs.ClauseLists.{clause_list, AreOver}
use Rattle.mcs_cnf.proofs.EntailmentLemmas.{classical_sound}
use Rattle.mcs_cnf.proofs.ModelLemmas.{model-kept}
use Rattle.mcs_classical.proofs.OutputLemmas.{IsShown, shown-none, shown-more, shown-all, rest_over}
use Rattle.mcs_classical.proofs.beliefs.outputs_in.Goals as goal

pub loop-number-init : goal.loop-number-init
loop-number-init c = record {
  kept = refl;
  over = c.args.given.now.asked.now.over;
  shown = λ fs known over. subst (λ (es : List Entail). IsShown (λ b. formula_of b.now) c.args.given.now.asked.now.atoms.now fs c.args.given.now.asked.now.beliefs.now 0 c.empty-state.result es) (sym c.new-entails.ensures.items)
      (subst (λ (s : ℕ). IsShown (λ b. formula_of b.now) c.args.given.now.asked.now.atoms.now fs c.args.given.now.asked.now.beliefs.now 0 s []) (sym c.empty-state.ensures) (shown-none (λ b. formula_of b.now) c.args.given.now.asked.now.atoms.now fs c.args.given.now.asked.now.beliefs.now));
  model = λ fs known over. tt;
}

pub loop-number-preserved : goal.loop-number-preserved
loop-number-preserved c =
    let i = c.loop-number.number in
    let belief = c.index-beliefs-number.result in
    let less = c.loop-number-test.true in
    let is = c.index-beliefs-number.is in
    let before = c.loop-number.invariant in
    record {
      kept = c.in_ok-entail.ensures.kept ∙ before.kept;
      over = (rest_over (λ b. formula_of b.now) c.args.given.now.asked.now.atoms.now c.args.given.now.asked.now.beliefs.now i belief less is before.over).1;
      shown = λ fs known over. shown-more (λ b. formula_of b.now) c.args.given.now.asked.now.atoms.now fs c.args.given.now.asked.now.beliefs.now i c.loop-number.state c.with_yes-state.result c.loop-number.entails.items c.push.new.self.items belief c.in_ok-entail.entail less is
          c.with_yes-state.ensures c.in_ok-push.ensures.items (c.in_ok-entail.ensures.accepted fs (before.kept ∙ known) over (before.model fs known over)) (before.shown fs known over);
      model = λ fs known over. subst (λ (m : Option ℕ). IfSome m (IsModelAt c.args.given.now.asked.now.atoms.now fs)) (sym c.model_shown-model.ensures)
          (model-kept c.args.given.now.asked.now.atoms.now fs (formula_of belief.now) c.loop-number.model (entailment_of c.in_ok-entail.entail) (before.model fs known over) (c.in_ok-entail.ensures.accepted fs (before.kept ∙ known) over (before.model fs known over)));
    }

pub entails_beside-requires-clause-goal : goal.entails_beside-requires-clause-goal
entails_beside-requires-clause-goal c =
    (rest_over (λ b. formula_of b.now) c.args.given.now.asked.now.atoms.now c.args.given.now.asked.now.beliefs.now c.loop-number.number c.index-beliefs-number.result c.loop-number-test.true c.index-beliefs-number.is c.loop-number.invariant.over).0

pub entails_beside-requires-clause-room : goal.entails_beside-requires-clause-room
entails_beside-requires-clause-room c = rw c.loop-number.invariant.kept c.requires

pub returns : goal.returns
returns c =
    let names = c.args.given.now.asked.now.atoms.now in
    let shown : (fs : List Formula) → c.args.known.now ≡ clause_list names fs → AreOver names fs → IsAcceptedClassical names fs (map (λ b. formula_of b.now) c.args.given.now.asked.now.beliefs.now) (c.loop-number.state ∷ []) (map entailment_of c.loop-number.entails.items) =
    λ fs known over. shown-all (λ b. formula_of b.now) names fs c.args.given.now.asked.now.beliefs.now c.loop-number.number c.loop-number.state c.loop-number.entails.items c.loop-number-test.false (c.loop-number.invariant.shown fs known over) in
    record {
      kept = c.loop-number.invariant.kept;
      exact = λ fs known over. classical_sound names fs (map (λ b. formula_of b.now) c.args.given.now.asked.now.beliefs.now) _ _ over c.args.given.now.asked.now.over (shown fs known over);
      accepted = shown;
    }
