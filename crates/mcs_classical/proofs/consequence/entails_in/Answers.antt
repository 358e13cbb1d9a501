use Rattle.std.proofs.Common.{◌≡◌, List, ◌≤◌, ◌∙◌, [], ◌∷◌, sym, subst, ℕ, length, take, arith}
use Rattle.std.proofs.lemmas.Grind.{common_steps}
use Rattle.std.specs.List.{AllByRecursion}
use Rattle.mcs_system.specs.Plain.{Formula, Not}
use Rattle.mcs_system.specs.Seen.{formula_of}
use Rattle.mcs_trace.specs.Clauses.{IsWithin}
use Rattle.mcs_trace.specs.Traces.{inferences_of}
use Rattle.mcs_trace.specs.declared.certificate.Entail.TheVariants as entail
use Rattle.mcs_sat.specs.declared.outcome.Outcome.{Outcome}
use Rattle.mcs_sat.specs.Answers.{IsSatAnswer}
use Rattle.mcs_cnf.specs.ClauseLists.{clause_list, AreOver}
use Rattle.mcs_cnf.specs.Entailments.{entailment_of, IsAcceptedEntailment}
use Rattle.mcs_cnf.proofs.EntailmentLemmas.{sound}
use Rattle.mcs_classical.proofs.RefutingLemmas.{answer_yes, answer_no}
use Rattle.mcs_cnf.proofs.GrowingLemmas.{grown_within, grown_fewer}
use Rattle.mcs_classical.proofs.consequence.entails_in.Goals as goal

pub true_places-requires-clause-values : goal.true_places-requires-clause-values
true_places-requires-clause-values c =
    let answer : IsSatAnswer c.push_goal.new.known (Outcome.Model c.in-Model.values) = subst (IsSatAnswer c.push_goal.new.known) c.in-Model.is c.in_ok-trace.ensures.answer in
    let known : c.args.known.now.vars ≤ c.push_goal.new.known.vars = grown_fewer c.args.given.now.asked.now.atoms.now c.args.known.now c.push_goal.new.known ((Not (formula_of c.args.goal.now)) ∷ [], c.in_ok-push_goal.ensures.ok) in
    omega (arith, answer.0)

pub cut-requires-clause-fewer : goal.cut-requires-clause-fewer
cut-requires-clause-fewer c =
    let pushed = c.solve-outcome.ensures.same ∙ c.in_ok-push_goal.ensures.ok in
    let known : c.args.known.now.vars ≤ c.solve-outcome.new.self.vars = grown_fewer c.args.given.now.asked.now.atoms.now c.args.known.now c.solve-outcome.new.self ((Not (formula_of c.args.goal.now)) ∷ [], pushed) in
    omega arith

pub cut-requires-clause-within : goal.cut-requires-clause-within
cut-requires-clause-within c =
    let pushed = c.solve-outcome.ensures.same ∙ c.in_ok-push_goal.ensures.ok in
    subst (λ (k : ℕ). AllByRecursion (IsWithin c.vars-vars.result) (take k c.solve-outcome.new.self.clauses)) (sym c.count-count.ensures)
    (subst (λ (n : ℕ). AllByRecursion (IsWithin n) (take (length c.args.known.now.clauses) c.solve-outcome.new.self.clauses)) (sym c.vars-vars.ensures.value)
    (grown_within c.args.given.now.asked.now.atoms.now c.args.known.now c.solve-outcome.new.self ((Not (formula_of c.args.goal.now)) ∷ [], pushed) c.vars-vars.ensures.kept))

pub returns-in-Refuted : goal.returns-in-Refuted
returns-in-Refuted c =
    let kept : c.cut.new.self ≡ c.args.known.now = grind (arith, common_steps) in
    let f = c.push_goal.new.known in
    let names = c.args.given.now.asked.now.atoms.now in
    let g = formula_of c.args.goal.now in
    let answer : IsSatAnswer f (Outcome.Refuted c.in-Refuted.trace) = subst (IsSatAnswer f) c.in-Refuted.is c.in_ok-trace.ensures.answer in
    let accepted : (fs : List Formula) → c.args.known.now ≡ clause_list names fs → AreOver names fs → IsAcceptedEntailment names fs g (entailment_of (entail.Yes c.in-Refuted.trace)) =
    λ fs is over. answer_yes fs g names c.args.known.now f (inferences_of c.in-Refuted.trace) is c.in_ok-push_goal.ensures.ok answer in
    record { kept = kept; accepted = accepted; exact = λ fs is over. sound fs g names (entailment_of (entail.Yes c.in-Refuted.trace)) over c.requires.goal (accepted fs is over) }

pub returns-in-Model : goal.returns-in-Model
returns-in-Model c =
    let kept : c.cut.new.self ≡ c.args.known.now = grind (arith, common_steps) in
    let f = c.push_goal.new.known in
    let names = c.args.given.now.asked.now.atoms.now in
    let g = formula_of c.args.goal.now in
    let answer : IsSatAnswer f (Outcome.Model c.in-Model.values) = subst (IsSatAnswer f) c.in-Model.is c.in_ok-trace.ensures.answer in
    let accepted : (fs : List Formula) → c.args.known.now ≡ clause_list names fs → AreOver names fs → IsAcceptedEntailment names fs g (entailment_of (entail.No c.number.result)) =
    λ fs is over. answer_no fs g names c.args.known.now f c.in-Model.values.items c.deref.result.now c.number.result is c.in_ok-push_goal.ensures.ok c.args.given.now.different over c.requires.goal answer.1 c.deref.ensures.value (c.number.ensures ∙ c.true_places.ensures) in
    record { kept = kept; accepted = accepted; exact = λ fs is over. sound fs g names (entailment_of (entail.No c.number.result)) over c.requires.goal (accepted fs is over) }
