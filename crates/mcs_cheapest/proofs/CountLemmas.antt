-- An evaluator after some calls of it: what it tells holds as before, and its questions are counted.
use Rattle.std.proofs.Common.{◌≡◌, ℕ, ◌+◌, List, [], ◌∷◌, map, length, Option, Some, refl, sym, ◌∙◌, subst}
use Rattle.std.proofs.lemmas.List.{length-map}
use Rattle.std.specs.List.{fold}
use Rattle.mcs_base.specs.Listings.{IsInventory}
use Rattle.mcs_base.proofs.Lists.{map_slice_get}
use Rattle.mcs_system.specs.Levels.{IsQuestionAt, HasQuestions, IsCount}
use Rattle.mcs_system.specs.Plain.{System}
use Rattle.mcs_states.specs.Oracles.{OracleState}
use Rattle.mcs_states.specs.Evaluators.{EvaluatorState, IsJournalQuestion, IsEvaluatorSettled, IsUnanswered, KeepsRest, ExceedsBudget, asked_of}
use Rattle.mcs_states.proofs.Causes.{unanswered_before}
use Rattle.mcs_import.proofs.CountLemmas.{journals_counted}

-- what stays, seen from the later one
pub rest_back : (a b : EvaluatorState) → KeepsRest a b → KeepsRest b a
rest_back a b h = record { system = sym h.system; budget = sym h.budget; workers = sym h.workers; oracles = sym h.oracles }

pub beyond_before : (a b : EvaluatorState) → KeepsRest a b → (level : ℕ) → ExceedsBudget b level → ExceedsBudget a level
beyond_before a b h level beyond = subst (λ (m : System). HasQuestions m level (a.budget + 1)) h.system (subst (λ (n : ℕ). HasQuestions b.system level (n + 1)) h.budget beyond)

pub beyond_after : (a b : EvaluatorState) → KeepsRest a b → (level : ℕ) → ExceedsBudget a level → ExceedsBudget b level
beyond_after a b h level beyond = beyond_before b a (rest_back a b h) level beyond

pub unanswered_after : (a b : EvaluatorState) → KeepsRest a b → (level i x : ℕ) → IsUnanswered a level i x → IsUnanswered b level i x
unanswered_after a b h level i x u = unanswered_before b a (rest_back a b h) level i x u

-- ---- the questions of the greatest level done
lengths_from : (n : ℕ) (os : List OracleState) → fold (λ a (xs : List ℕ). a + length xs) n (map (λ (o : OracleState). o.journal) os) ≡ fold (λ a (o : OracleState). a + length o.journal) n os
lengths_from n [] = refl
lengths_from n (o ∷ os) = lengths_from (n + length o.journal) os

pub settled_count : (e : EvaluatorState) (level : ℕ) → IsEvaluatorSettled e → e.done ≡ Some level → IsCount e.system level (asked_of e)
settled_count e level settled done =
    let journals : List (List ℕ) = map (λ (o : OracleState). o.journal) e.oracles in
    let each : length journals ≡ length e.system.contexts = length-map e.oracles (λ (o : OracleState). o.journal) ∙ settled.one_each in
    subst (λ (n : ℕ). IsCount e.system level n) (lengths_from 0 e.oracles) (journals_counted e.system level journals each (λ i xs is.
    let (o, at, same) = map_slice_get (λ (o : OracleState). o.journal) e.oracles i xs is in
    let own : IsInventory (IsJournalQuestion e.system e.done i) o.journal = settled.asked i o at in
    let asked : IsInventory (IsJournalQuestion e.system (Some level) i) o.journal = subst (λ (d : Option ℕ). IsInventory (IsJournalQuestion e.system d i) o.journal) done own in
    subst (λ (ys : List ℕ). IsInventory (IsQuestionAt e.system level i) ys) same asked))
