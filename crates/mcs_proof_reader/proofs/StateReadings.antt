-- States, as many as come in order, read.
use Rattle.std.proofs.Common.{◌≡◌, ℕ, ◌+◌, true, List, [], ◌∷◌, ◌++◌, map, length, codes, Option, Some, None, Ok, refl, sym, ap, ◌∙◌, subst, arith}
use Rattle.std.proofs.lemmas.List.{length-map}
use Rattle.std.specs.List.{AllByRecursion, last_or}
use Rattle.std.specs.Option.{option_and_then}
use Rattle.mcs_sets.specs.Sets.{Within}
use Rattle.mcs_sets.specs.Orders.{StateBefore}
use Rattle.mcs_base.specs.Listings.{IsAscending}
use Rattle.mcs_base.specs.StateOrder.{StateBefore-transitive}
use Rattle.mcs_base.proofs.Each.{all_weaker}
use Rattle.mcs_system.specs.Plain.{System}
use Rattle.mcs_system.specs.Naming.{IsSystemNamed}
use Rattle.mcs_system.specs.Faults.{IsValid}
use Rattle.mcs_system.specs.Systems.{variables_of}
use Rattle.mcs_spelling.specs.Words.{after_prefix, step_of, set_of, guarded}
use Rattle.mcs_proof_text.specs.Lines.{output_text}
use Rattle.mcs_proof_lines.specs.Walks.{At, Reading, head_line}
use Rattle.mcs_proof_lines.specs.Readings.{here, AreLinesRead, ReadsLines, AllStop, IsLineOfOtherKind}
use Rattle.mcs_proof_reader.specs.Questions.{variable_texts, state_after, state_in_words, with_state, states_from, states_at}
use Rattle.mcs_proof_reader.proofs.StateTests.{told_before, is_told}
use Rattle.mcs_proof_reader.proofs.QuestionReadings.{state_line}

-- states of the variables, each after the one before
abbrev pub AreStatesAfter : System → ℕ → Option ℕ → List ℕ → Type 0
AreStatesAfter m i last [] = Unit {0}
AreStatesAfter m i last (σ ∷ σs) = (Within σ (variables_of m i) × (state_after last σ ≡ true)) × AreStatesAfter m i (Some σ) σs

-- ---- as they are said to be
to_states : (m : System) (i : ℕ) (last : Option ℕ) (σs : List ℕ) → AreStatesAfter m i last σs → AllByRecursion (λ σ. Within σ (variables_of m i)) σs × IsAscending StateBefore σs × AllByRecursion (λ σ. state_after last σ ≡ true) σs
to_states m i last [] are = (tt, tt, tt)
to_states m i last (σ ∷ σs) are =
    let (within, up, later) = to_states m i (Some σ) σs are.1 in
    let before : AllByRecursion (StateBefore σ) σs = all_weaker (λ τ. state_after (Some σ) τ ≡ true) (StateBefore σ) (λ τ is. told_before σ τ is) σs later in
    ((are.0.0, within), (before, up), (are.0.1, all_weaker (StateBefore σ) (λ τ. state_after last τ ≡ true) (λ τ b. beyond last σ τ are.0.1 b) σs before))
  where
    beyond : (last : Option ℕ) (σ τ : ℕ) → state_after last σ ≡ true → StateBefore σ τ → state_after last τ ≡ true
    beyond None σ τ is b = refl
    beyond (Some ρ) σ τ is b = is_told ρ τ (StateBefore-transitive ρ σ τ (told_before ρ σ is) b)

from_states : (m : System) (i : ℕ) (last : Option ℕ) (σs : List ℕ) → AllByRecursion (λ σ. Within σ (variables_of m i)) σs → IsAscending StateBefore σs → AllByRecursion (λ σ. state_after last σ ≡ true) σs → AreStatesAfter m i last σs
from_states m i last [] within up later = tt
from_states m i last (σ ∷ σs) within up later = ((within.0, later.0), from_states m i (Some σ) σs within.1 up.1 (all_weaker (StateBefore σ) (λ τ. state_after (Some σ) τ ≡ true) (λ τ b. is_told σ τ b) σs up.0))

none_before : (σs : List ℕ) → AllByRecursion (λ σ. state_after None σ ≡ true) σs
none_before [] = tt
none_before (σ ∷ σs) = (refl, none_before σs)

pub are_states : (m : System) (i : ℕ) (σs : List ℕ) → AreStatesAfter m i None σs → AllByRecursion (λ σ. Within σ (variables_of m i)) σs × IsAscending StateBefore σs
are_states m i σs are = let (within, up, later) = to_states m i None σs are in (within, up)

pub states_are : (m : System) (i : ℕ) (σs : List ℕ) → AllByRecursion (λ σ. Within σ (variables_of m i)) σs → IsAscending StateBefore σs → AreStatesAfter m i None σs
states_are m i σs within up = from_states m i None σs within up (none_before σs)

module _ (m : System) (valid : IsValid m) (named : IsSystemNamed m) (i : ℕ) where
  abbrev own : ℕ
  own = variables_of m i

  record IsStateRun (last : Option ℕ) (n : ℕ) (rest : List (List ℕ)) (tail : List ℕ) (r : List ℕ × At) : Type 0 where
    pub values : AreStatesAfter m i last r.0
    pub rest_is : rest ≡ map (output_text m) r.0 ++ r.1.rest
    pub taken : r.1.taken ≡ n + length r.0
    pub tail_is : r.1.tail ≡ tail
    pub other : option_and_then (state_in_words m own (last_or last r.0)) (head_line r.1.rest) ≡ None

  states_sound : (last : Option ℕ) (n : ℕ) (rest : List (List ℕ)) (tail : List ℕ) → IsStateRun last n rest tail (states_from m own last n rest tail)
  states_sound last n [] tail = record { values = tt; rest_is = refl; taken = omega arith; tail_is = refl; other = refl }
  states_sound last n (line ∷ rest) tail = by (state_in_words m own last line) refl (λ σ. states_sound (Some σ) (n + 1) rest tail)
    where
      by : (o : Option ℕ) → state_in_words m own last line ≡ o → ((σ : ℕ) → IsStateRun (Some σ) (n + 1) rest tail (states_from m own (Some σ) (n + 1) rest tail))
          → IsStateRun last n (line ∷ rest) tail (with_state o (λ σ. states_from m own (Some σ) (n + 1) rest tail) (here n (line ∷ rest) tail))
      by None e again = record { values = tt; rest_is = refl; taken = omega arith; tail_is = refl; other = e }
      by (Some σ) e again =
          let r = again σ in
          let (is, spelled) = (state_line m valid named i last).sound line σ e in
          record {
            values = (is, r.values);
            rest_is = ap (λ (l : List ℕ). l ∷ rest) spelled ∙ ap (λ (ls : List (List ℕ)). output_text m σ ∷ ls) r.rest_is;
            taken = (let t = r.taken in omega (arith, t));
            tail_is = r.tail_is;
            other = r.other;
          }

  states_none : (last : Option ℕ) (n : ℕ) (rest : List (List ℕ)) (tail : List ℕ) → option_and_then (state_in_words m own last) (head_line rest) ≡ None → states_from m own last n rest tail ≡ ([], here n rest tail)
  states_none last n [] tail other = refl
  states_none last n (line ∷ rest) tail other = ap (λ (o : Option ℕ). with_state o (λ σ. states_from m own (Some σ) (n + 1) rest tail) (here n (line ∷ rest) tail)) other

  states_complete : (last : Option ℕ) (σs : List ℕ) (n : ℕ) (more : List (List ℕ)) (tail : List ℕ) → AreStatesAfter m i last σs → option_and_then (state_in_words m own (last_or last σs)) (head_line more) ≡ None
      → states_from m own last n (map (output_text m) σs ++ more) tail ≡ (σs, here (n + length σs) more tail)
  states_complete last [] n more tail are other = states_none last n more tail other ∙ (let same : n ≡ n + length {A = ℕ} [] = omega arith in ap (λ (k : ℕ). (let r : List ℕ × At = ([], here k more tail) in r)) same)
  states_complete last (σ ∷ σs) n more tail are other =
      let again = states_complete (Some σ) σs (n + 1) more tail are.1 other in
      let count : n + 1 + length σs ≡ n + length (σ ∷ σs) = omega arith in
      ap (λ (o : Option ℕ). with_state o (λ τ. states_from m own (Some τ) (n + 1) (map (output_text m) σs ++ more) tail) (here n (output_text m σ ∷ (map (output_text m) σs ++ more)) tail)) ((state_line m valid named i last).complete σ are.0)
      ∙ (ap (λ (r : List ℕ × At). (let s : List ℕ × At = (σ ∷ r.0, r.1) in s)) again ∙ ap (λ (k : ℕ). (let s : List ℕ × At = (σ ∷ σs, here k more tail) in s)) count)

  no_next : (last : Option ℕ) (more : List (List ℕ)) → IsLineOfOtherKind (after_prefix (codes "state ")) more → option_and_then (state_in_words m own last) (head_line more) ≡ None
  unfolding state_in_words
  no_next last [] none = refl
  no_next last (line ∷ more) none = ap (λ (o : Option (List ℕ)). option_and_then (λ σ. guarded (state_after last σ) σ) (option_and_then (set_of (variable_texts m) own) o)) none

  abbrev pub read_states : At → Reading (List ℕ)
  read_states at = Ok (states_at m (variables_of m i) None at)

  long : (σs : List ℕ) → length (map (output_text m) σs) ≡ length σs
  long σs = length-map σs (output_text m)

  read_sound : (at now : At) (σs : List ℕ) → read_states at ≡ Ok (σs, now) → AreLinesRead (AreStatesAfter m i None) (map (output_text m)) at now σs × (option_and_then (state_in_words m own (last_or None σs)) (head_line now.rest) ≡ None)
  unfolding states_at
  read_sound at now σs e =
      let same : ◌≡◌ {A = List ℕ × At} (states_from m own None at.taken at.rest at.tail) (σs, now) = cc in
      let r : IsStateRun None at.taken at.rest at.tail (σs, now) = subst (IsStateRun None at.taken at.rest at.tail) same (states_sound None at.taken at.rest at.tail) in
      (record { is = r.values; rest = r.rest_is; taken = (let t = r.taken in omega (arith, t, long σs)); tail = r.tail_is }, r.other)

  read_complete : (σs : List ℕ) (n : ℕ) (more : List (List ℕ)) (tail : List ℕ) → AreStatesAfter m i None σs → option_and_then (state_in_words m own (last_or None σs)) (head_line more) ≡ None → read_states (here n (map (output_text m) σs ++ more) tail) ≡ Ok (σs, here (n + length (map (output_text m) σs)) more tail)
  unfolding states_at
  read_complete σs n more tail are other =
      let count : n + length σs ≡ n + length (map (output_text m) σs) = omega (arith, long σs) in
      ap (λ (r : List ℕ × At). (let s : Reading (List ℕ) = Ok r in s)) (states_complete None σs n more tail are other) ∙ ap (λ (k : ℕ). (let s : Reading (List ℕ) = Ok (σs, here k more tail) in s)) count

  pub reads_states : ReadsLines (AreStatesAfter m i None) (map (output_text m)) (IsLineOfOtherKind (after_prefix (codes "state "))) read_states
  reads_states = record {
    sound = λ at now σs e. (read_sound at now σs e).0;
    complete = λ σs n more tail are none. read_complete σs n more tail are (no_next (last_or None σs) more none);
    fault = λ at n e. absurd (cc);
    local = λ at k rest tail e less front. absurd (cc);
    stable = λ at now σs rest tail e next. (
        let (r, other) = read_sound at now σs e in
        read_complete σs at.taken rest tail r.is (ap (option_and_then (state_in_words m own (last_or None σs))) next ∙ other) ∙ ap (λ (k : ℕ). (let s : Reading (List ℕ) = Ok (σs, here k rest tail) in s)) (sym r.taken));
  }

  pub states_stop : AllStop (AreStatesAfter m i None) (map (output_text m))
  unfolding output_text step_of after_prefix
  states_stop [] more are end = end
  states_stop (σ ∷ σs) more are end = refl
