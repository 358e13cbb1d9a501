-- What shows that formulas follow or do not, read.
use Rattle.std.proofs.Common.{◌≡◌, ℕ, ◌+◌, ◌<◌, ◌≤◌, suc, Bool, true, false, cond, inl, inr, IsTrue, nat_eq, List, [], ◌∷◌, ◌++◌, map, length, codes, slice_get, Option, Some, Result, Ok, Err, refl, sym, ap, ◌∙◌, subst, arith}
use Rattle.std.proofs.lemmas.List.{map-append}
use Rattle.std.proofs.lemmas.Nat.Bits.{bit_at_ones}
use Rattle.std.specs.List.{flat_map}
use Rattle.mcs_sets.specs.Sets.{has, members_from}
use Rattle.mcs_sets.proofs.SetLemmas.{members-width}
use Rattle.mcs_sets.proofs.Lattice.{below_from_members, no_member_of_none}
use Rattle.mcs_system.specs.Plain.{Name}
use Rattle.mcs_text.specs.Separated.{braced}
use Rattle.mcs_trace.specs.Traces.{Inference}
use Rattle.mcs_cnf.specs.Entailments.{Entailment, Yes, No}
use Rattle.mcs_evidence.specs.Programs.{IsInRange}
use Rattle.mcs_spelling.specs.Parts.{atom_text, atoms_text, chosen, set_text, AreTellable, AreMembersAllowed, step_text, text_of_name}
use Rattle.mcs_spelling.specs.Words.{after_prefix, step_of, set_of}
use Rattle.mcs_spelling.proofs.SetTexts.{set_spelled, set_read}
use Rattle.mcs_proof_text.specs.Lines.{Line, line_text}
use Rattle.mcs_proof_text.specs.Answers.{trace_lines, entailment_lines, all_entailment_lines}
use Rattle.mcs_proof_text.specs.Shapes.{IsTrace, IsYes, IsNo, IsEither, AreMany}
use Rattle.mcs_proof_lines.specs.Walks.{At, Reading, ◌>>=◌, mapped_reading, head_line, expect_at, everything, atoms_of_line, atoms_at, trace_at, yes_at, no_at, entailment_at, many_at}
use Rattle.mcs_proof_lines.specs.Readings.{Stops, Anything, ReadsLines, ReadsLine, one_line, Image, IsEitherOf, Begin, IsMany, is_line}
use Rattle.mcs_proof_lines.proofs.Readings.{reads_line, reads_same}
use Rattle.mcs_proof_lines.proofs.ReadingSequences.{reads_made, chosen_at, reads_chosen}
use Rattle.mcs_proof_lines.proofs.ReadingLists.{reads_many}
use Rattle.mcs_proof_lines.proofs.WordReadings.{reads_word, after_line}
use Rattle.mcs_proof_lines.proofs.TraceReadings.{reads_trace, some_trace}

-- ---- the lines of a value, as bytes
abbrev pub told : {A : Type 0} → List Name → (A → List Line) → A → List (List ℕ)
told names lines x = map (line_text names) (lines x)

pub told_all : {A : Type 0} (names : List Name) (lines : A → List Line) (xs : List A) → flat_map (told names lines) xs ≡ map (line_text names) (flat_map lines xs)
told_all names lines [] = refl
told_all names lines (x ∷ xs) = ap (λ (ls : List (List ℕ)). told names lines x ++ ls) (told_all names lines xs) ∙ sym (map-append (line_text names) (lines x) (flat_map lines xs))

pub trace_told : (names : List Name) (steps : List Inference) → map step_text steps ≡ told names trace_lines steps
unfolding line_text
trace_told names [] = refl
trace_told names (s ∷ steps) = ap (λ (ls : List (List ℕ)). step_text s ∷ ls) (trace_told names steps)

-- ---- sets of atoms
pub chosen_are : (s : ℕ) (f : ℕ → List ℕ) (k : ℕ) (ts : List (List ℕ)) → ((j : ℕ) (t : List ℕ) → slice_get ts j ≡ Some t → f (k + j) ≡ t) → chosen s k ts ≡ map f (members_from k (length ts) s)
unfolding members_from
chosen_are s f k [] named = refl
chosen_are s f k (t ∷ ts) named = at (has s k) (chosen_are s f (k + 1) ts (λ j u e. (let next : k + 1 + j ≡ k + suc j = omega arith in ap f next ∙ named (suc j) u e))) (let zero_is : k ≡ k + 0 = omega arith in sym (ap f zero_is ∙ named 0 t refl))
  where
    at : (b : Bool) → chosen s (k + 1) ts ≡ map f (members_from (k + 1) (length ts) s) → t ≡ f k
        → cond b (t ∷ chosen s (k + 1) ts) (chosen s (k + 1) ts) ≡ map f (cond b (k ∷ members_from (k + 1) (length ts) s) (members_from (k + 1) (length ts) s))
    at true rest first = ap (λ (u : List ℕ). u ∷ chosen s (k + 1) ts) first ∙ ap (λ (us : List (List ℕ)). f k ∷ us) rest
    at false rest first = rest

pub atoms_chosen : (names : List Name) (places : ℕ) → IsInRange names places → set_text names places ≡ atoms_text names places
atoms_chosen names places inside =
    let small = below_from_members (length names) places inside in
    ap braced (chosen_are places (atom_text names) 0 names (λ j t e. (let same : 0 + j ≡ j = omega arith in ap (atom_text names) same ∙ ap (λ (o : Option Name). text_of_name o) e))
    ∙ ap (map (atom_text names)) (sym (members-width places (length names) small)))

pub in_everything : (k : ℕ) → k < 64 → IsTrue (has everything k)
unfolding has
in_everything k less = ap (λ (b : ℕ). nat_eq b 1) (bit_at_ones 64 k less)

-- ---- where the atoms have these names, at most 64, which can be told apart
module _ (names : List Name) (few : length names ≤ 64) (tells : AreTellable names) where
  allowed : (places : ℕ) → IsInRange names places → AreMembersAllowed everything (length names) places
  allowed places inside k member = let less : k < length names = inside k member in (less, in_everything k (omega (arith, less, few)))

  pub set_line : ReadsLine (IsInRange names) (atoms_text names) (set_of names everything)
  set_line = record {
    sound = λ line places e. (let (is, spelled) = set_spelled names everything line places e in let inside : IsInRange names places = λ k member. (is k member).0 in (inside, spelled ∙ atoms_chosen names places inside));
    complete = λ places is. ap (set_of names everything) (sym (atoms_chosen names places is)) ∙ set_read names everything places tells (allowed places is);
  }

  -- a word, and then a set of atoms
  pub reads_atoms : (word : List ℕ) → ReadsLines (IsInRange names) (one_line (λ places. word ++ atoms_text names places)) Anything (atoms_at word names)
  unfolding atoms_at
  reads_atoms word = reads_line (IsInRange names) (λ places. word ++ atoms_text names places) (atoms_of_line word names) (after_line word (IsInRange names) (atoms_text names) (set_of names everything) set_line)

  -- ---- that a formula follows, or that it does not
  is_no : (e : Entailment) → Image No (IsInRange names) e → IsNo names e
  is_no e (places, is, inside) = subst (IsNo names) (sym is) inside

  no_is : (e : Entailment) → IsNo names e → Image No (IsInRange names) e
  no_is (Yes steps) is = absurd is
  no_is (No places) is = (places, refl, is)

  no_line_told : (places : ℕ) → one_line (λ places. codes "no " ++ atoms_text names places) places ≡ told names entailment_lines (No places)
  unfolding line_text
  no_line_told places = refl

  no_same : (at : At) → mapped_reading No (atoms_at (codes "no ") names at) ≡ no_at names at
  unfolding no_at
  no_same at = refl

  -- what follows is of no matter
  any_end : {A : Type 0} (Is : A → Type 0) (lines : A → List (List ℕ)) (p : At → Reading A) → ReadsLines Is lines Anything p → ReadsLines Is lines Stops p
  any_end Is lines p h = record { sound = h.sound; complete = λ x n more tail is end. h.complete x n more tail is tt; fault = h.fault; local = h.local; stable = h.stable }

  pub reads_no : ReadsLines (IsNo names) (told names entailment_lines) Stops (no_at names)
  reads_no =
      let made_of = reads_made (IsInRange names) _ Anything (atoms_at (codes "no ") names) No (told names entailment_lines) (reads_atoms (codes "no ")) (λ places is. no_line_told places) in
      any_end (IsNo names) (told names entailment_lines) (no_at names) (reads_same _ (IsNo names) _ (told names entailment_lines) Anything _ (no_at names) made_of is_no no_is (λ x is. refl) no_same)

  is_yes : (e : Entailment) → Image Yes IsTrace e → IsYes e
  is_yes e (steps, is, known) = subst IsYes (sym is) known

  yes_is : (e : Entailment) → IsYes e → Image Yes IsTrace e
  yes_is (Yes steps) is = (steps, refl, is)
  yes_is (No places) is = absurd is

  yes_told : (steps : List Inference) → codes "yes" ∷ map step_text steps ≡ told names entailment_lines (Yes steps)
  unfolding line_text
  yes_told steps = ap (λ (ls : List (List ℕ)). codes "yes" ∷ ls) (trace_told names steps)

  yes_same : (at : At) → mapped_reading Yes (expect_at (codes "yes") at >>= trace_at) ≡ yes_at at
  unfolding yes_at
  yes_same at = by (expect_at (codes "yes") at)
    where
      by_trace : (r : Reading (List Inference)) → mapped_reading Yes r ≡ (r >>= λ trace. Ok (Yes trace.0, trace.1))
      by_trace r = refl

      by : (r : Result At ℕ) → mapped_reading Yes (r >>= trace_at) ≡ (r >>= λ next. trace_at next >>= λ trace. Ok (Yes trace.0, trace.1))
      by (Ok next) = refl
      by (Err n) = refl

  pub reads_yes : ReadsLines IsYes (told names entailment_lines) Stops yes_at
  reads_yes =
      let word = reads_word (codes "yes") trace_at IsTrace (map step_text) Stops reads_trace some_trace in
      let made_of = reads_made IsTrace _ Stops _ Yes (told names entailment_lines) word (λ steps is. yes_told steps) in
      reads_same _ IsYes _ (told names entailment_lines) Stops _ yes_at made_of is_yes yes_is (λ x is. refl) yes_same

  -- either
  yes_says : (e : Entailment) (rest : List (List ℕ)) → IsYes e → is_line (codes "yes") (head_line (told names entailment_lines e ++ rest)) ≡ true
  unfolding line_text
  yes_says (Yes steps) rest is = refl
  yes_says (No places) rest is = absurd is

  no_says : (e : Entailment) (rest : List (List ℕ)) → IsNo names e → is_line (codes "yes") (head_line (told names entailment_lines e ++ rest)) ≡ false
  unfolding line_text
  no_says (Yes steps) rest is = absurd is
  no_says (No places) rest is = refl

  either_is : (e : Entailment) → IsEither names e → IsEitherOf IsYes (IsNo names) e
  either_is (Yes steps) is = inl is
  either_is (No places) is = inr is

  is_either : (e : Entailment) → IsEitherOf IsYes (IsNo names) e → IsEither names e
  is_either (Yes steps) (inl is) = is
  is_either (Yes steps) (inr is) = absurd is
  is_either (No places) (inl is) = absurd is
  is_either (No places) (inr is) = is

  either_same : (at : At) → chosen_at (is_line (codes "yes")) yes_at (no_at names) at ≡ entailment_at names at
  unfolding entailment_at
  either_same at = refl

  pub reads_either : ReadsLines (IsEither names) (told names entailment_lines) Stops (entailment_at names)
  reads_either = reads_same _ (IsEither names) _ (told names entailment_lines) Stops _ (entailment_at names)
      (reads_chosen IsYes (IsNo names) (told names entailment_lines) Stops yes_at (no_at names) (is_line (codes "yes")) reads_yes reads_no yes_says no_says) is_either either_is (λ x is. refl) either_same

  -- ---- several
  pub yes_begins : Begin IsYes (told names entailment_lines)
  unfolding line_text step_of after_prefix
  yes_begins (Yes steps) rest is = refl
  yes_begins (No places) rest is = absurd is

  pub no_begins : Begin (IsNo names) (told names entailment_lines)
  unfolding line_text step_of after_prefix
  no_begins (Yes steps) rest is = absurd is
  no_begins (No places) rest is = refl

  pub either_begins : Begin (IsEither names) (told names entailment_lines)
  either_begins (Yes steps) rest is = yes_begins (Yes steps) rest is
  either_begins (No places) rest is = no_begins (No places) rest is

  pub some_no : (e : Entailment) × IsNo names e
  some_no = (No 0, λ k member. absurd (no_member_of_none 0 refl k member))

  pub some_yes : (e : Entailment) × IsYes e
  some_yes = (Yes some_trace.0, some_trace.1)

  pub some_either : (e : Entailment) × IsEither names e
  some_either = (some_no.0, no_either some_no.0 some_no.1)
    where
      no_either : (e : Entailment) → IsNo names e → IsEither names e
      no_either (Yes steps) is = absurd is
      no_either (No places) is = is

  module _ (Is : Entailment → Type 0) (p : At → Reading Entailment) (h : ReadsLines Is (told names entailment_lines) Stops p) (begin : Begin Is (told names entailment_lines)) (some : (e : Entailment) × Is e) (n : ℕ) where
    pub reads_several : ReadsLines (AreMany Is n) (told names all_entailment_lines) Stops (many_at p n)
    reads_several = reads_same (IsMany Is n) (AreMany Is n) (flat_map (told names entailment_lines)) (told names all_entailment_lines) Stops (many_at p n) (many_at p n)
        (reads_many Is (told names entailment_lines) p h begin some n) (λ es is. record { many = is.0; each = is.1 }) (λ es is. (is.many, is.each)) (λ es is. told_all names entailment_lines es) (λ at. refl)
