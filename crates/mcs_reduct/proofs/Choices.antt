-- Two programs of which each chooses by negation, evaluated: each has in the reduct the one answer set of its choice.
use Rattle.std.proofs.Common.{◌≡◌, ℕ, zero, suc, Bool, true, false, ◌&&◌, ◌||◌, List, [], ◌∷◌, Some, refl, sym, ap, ◌∙◌, subst, true≢false, slice_get}
use Rattle.std.proofs.lemmas.Option.{same_Some}
use Rattle.std.specs.List.{list_all}
use Rattle.mcs_system.specs.Plain.{Name, ProgramRule, Program, Context}
use Rattle.mcs_system.specs.Logic.{is_in, BeliefSet, Theory, Atoms, Accepts, with_heads, satisfies, reduct, IsAnswerSet}
use Rattle.mcs_system.specs.Systems.{all_rules, AcceptsWith, IsEquilibrium}
use Rattle.mcs_laws.specs.Examples.{name_a, name_b}
use Rattle.mcs_laws.proofs.Worked.{in_one}
use Rattle.mcs_reduct.specs.Examples.{one_of_two, two_choices}
use Rattle.mcs_reduct.specs.Grounded.{LiesWithin, IsWithin}
use Rattle.mcs_reduct.specs.Reducts.{IsReductEquilibrium}
use Rattle.mcs_reduct.specs.Laws.{ChoicesAreGrounded}
use Rattle.mcs_reduct.proofs.Beliefs.{are_unblocked, unblocked_rules}
use Rattle.mcs_reduct.proofs.Programs.{fact}
use Rattle.mcs_reduct.proofs.Reduced.{reduct_accepts, no_rule, reduct_of_equilibrium}

-- where a fact is satisfied its atom is there
pub fact_there : (n : Name) (b : List Name) → ((is_in n b || false) && true) ≡ true → is_in n b ≡ true
fact_there n b h = at (is_in n b) h
  where
    at : (v : Bool) → ((v || false) && true) ≡ true → v ≡ true
    at true e = refl
    at false e = e

-- the choice is an answer set where the reduct by it is the fact, and the fact holds
module _ (n : Name) (rules : List ProgramRule) (by_choice : reduct (n ∷ []) rules ≡ fact n ∷ []) (holds : ((is_in n (n ∷ []) || false) && true) ≡ true) where
  pub answer_of_fact : IsAnswerSet rules (n ∷ [])
  answer_of_fact = record {
    model = ap (list_all (satisfies (n ∷ []))) by_choice ∙ holds;
    minimal = λ b smaller h. true≢false (sym (fact_there n b (sym (ap (list_all (satisfies b)) by_choice) ∙ h)) ∙ sym (ap (λ (k : Name). is_in k b) (in_one smaller.more n smaller.in_second)) ∙ smaller.not_in_first);
  }

abbrev choices : List BeliefSet
choices = Atoms (name_a ∷ []) ∷ Atoms (name_b ∷ []) ∷ []

abbrev context_of : Name → Context
context_of name = record { name = name; kb = Program one_of_two }

balanced : IsEquilibrium two_choices (all_rules two_choices) 0 choices
balanced = record { one_each = refl; acting = 0; of_rules = λ k h. no_rule _ k h; acting_is = λ k b is. absurd (cc); accepted = accepted }
  where
    accepted : (i : ℕ) (b : BeliefSet) → slice_get choices i ≡ Some b → AcceptsWith two_choices i 0 b
    accepted zero b is = subst (AcceptsWith two_choices 0 0) (same_Some (Atoms (name_a ∷ [])) b is) (context_of name_a, refl, answer_of_fact name_a one_of_two refl refl)
    accepted (suc zero) b is = subst (AcceptsWith two_choices 1 0) (same_Some (Atoms (name_b ∷ [])) b is) (context_of name_b, refl, answer_of_fact name_b one_of_two refl refl)
    accepted (suc (suc i)) b is = absurd (cc)

-- what accepts the fact has its atom
within_accepted : (n : Name) (c : BeliefSet) → Accepts (with_heads (Program (fact n ∷ [])) []) c → LiesWithin (Atoms (n ∷ [])) c
within_accepted n (Theory e) accepts = absurd accepts
within_accepted n (Atoms a) answer = (fact_there n a answer.model, tt)

least : (t : List BeliefSet) → IsReductEquilibrium two_choices choices t → IsWithin choices t
least t e zero b c is own = subst (λ (x : BeliefSet). LiesWithin x c) (same_Some (Atoms (name_a ∷ [])) b is)
    (within_accepted name_a c ((reduct_accepts two_choices choices 0 e.balanced.acting (context_of name_a) (Atoms (name_a ∷ [])) c refl refl).0 (e.balanced.accepted 0 c own)))
least t e (suc zero) b c is own = subst (λ (x : BeliefSet). LiesWithin x c) (same_Some (Atoms (name_b ∷ [])) b is)
    (within_accepted name_b c ((reduct_accepts two_choices choices 1 e.balanced.acting (context_of name_b) (Atoms (name_b ∷ [])) c refl refl).0 (e.balanced.accepted 1 c own)))
least t e (suc (suc i)) b c is own = absurd (cc)

pub choices_are_grounded : ChoicesAreGrounded
choices_are_grounded = record { balanced = reduct_of_equilibrium two_choices choices (unblocked_rules two_choices choices) (are_unblocked two_choices choices) balanced; least = least }
