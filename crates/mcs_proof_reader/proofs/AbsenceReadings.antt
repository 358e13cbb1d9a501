-- What shows of defaults that they do not apply, read.
use Rattle.std.proofs.Common.{◌≡◌, ℕ, ◌-◌, ◌<◌, ◌≤◌, ◌^◌, zero, suc, Bool, true, false, cond, ◌&&◌, nat_le, nat_lt, is_some, List, ◌++◌, map, length, codes, slice_get, Option, Some, None, Ok, Err, refl, sym, ap, ◌∙◌, subst, arith, inl, inr, true≢false}
use Rattle.std.proofs.lemmas.Bool.{and_parts}
use Rattle.std.proofs.lemmas.Bool.Decides.{nat_tests}
use Rattle.std.proofs.lemmas.Option.{cond_some, slice_get-map, slice_get_within}
use Rattle.std.specs.Fmt.{decimal}
use Rattle.std.specs.Option.{option_map, option_map_or}
use Rattle.mcs_system.specs.Plain.{Name, Default, Item}
use Rattle.mcs_cnf.specs.Entailments.{Entailment}
use Rattle.mcs_evidence.specs.Defaults.{Absence, Unsupported, Blocked, defaults_of, numbered_default}
use Rattle.mcs_spelling.specs.Parts.{AreTellable, IsSmallNumber}
use Rattle.mcs_spelling.specs.Words.{after_prefix, step_of, guarded}
use Rattle.mcs_proof_text.specs.Lines.{line_text}
use Rattle.mcs_proof_text.specs.Answers.{entailment_lines, absence_lines}
use Rattle.mcs_proof_text.specs.Shapes.{IsYes, IsNo, IsAbsence, number_of_absence}
use Rattle.mcs_proof_lines.specs.Walks.{At, Reading, head_line, line_at, taken_at, advanced, mapped_reading, number_after, may_be_named, is_just, may_block, unsupported_of, blocked_of, unsupported_at, blocked_at, absence_at, no_at, yes_at}
use Rattle.mcs_proof_lines.specs.Readings.{Stops, Anything, ReadsLines, ReadsLine, one_line, Image, AreBoth, both_lines, IsEitherOf, Begin, IsAtMost, two_text, two_of, AreSmall, IsPassing, IsBlockOf, is_read}
use Rattle.mcs_proof_lines.proofs.Readings.{picked, reads_line, reads_same}
use Rattle.mcs_proof_lines.proofs.ReadingSequences.{both, paired, reads_made, reads_both, chosen_at, reads_chosen}
use Rattle.mcs_proof_lines.proofs.WordReadings.{after_line}
use Rattle.mcs_proof_lines.proofs.Justs.{justs_in, counted}
use Rattle.mcs_proof_lines.proofs.NumberReadings.{guarded_line, number_after_line, two_spelled, two_read}
use Rattle.mcs_proof_reader.proofs.EvidenceReadings.{told, reads_no, reads_yes, some_no, some_yes}

-- ---- numbers of defaults and justifications
pub counted_justs : (items : List Item) (justs : List ℕ) → justs ≡ map justs_in (defaults_of items) → length justs ≡ length (defaults_of items)
counted_justs items justs are = counted (defaults_of items) justs are

pub numbered : (items : List Item) (n : ℕ) → 0 < n → numbered_default items n ≡ slice_get (defaults_of items) (n - 1)
numbered items zero some = absurd (omega (arith, some))
numbered items (suc k) some = let e : k ≡ suc k - 1 = omega arith in ap (slice_get (defaults_of items)) e

-- the default at a place has a justification of this number
pub record HasJust (ds : List Default) (place j : ℕ) : Type 0 where
  pub default : Default
  pub is_it : slice_get ds place ≡ Some default
  pub enough : j ≤ length default.justs
  pub fits : j < 2 ^ 32

just_told : (ds : List Default) (n j : ℕ) → is_just (map justs_in ds) n j ≡ true → HasJust ds (n - 1) j
just_told ds n j e = at (slice_get ds (n - 1)) refl (sym (ap (λ (o : Option ℕ). option_map_or (λ count. nat_le j count && nat_lt j (2 ^ 32)) o false) (slice_get-map justs_in ds (n - 1))) ∙ e)
  where
    at : (o : Option Default) → slice_get ds (n - 1) ≡ o → option_map_or (λ count. nat_le j count && nat_lt j (2 ^ 32)) (option_map justs_in o) false ≡ true → HasJust ds (n - 1) j
    at None is e = absurd (true≢false (sym e))
    at (Some d) is e = let (enough, fits) = and_parts (nat_le j (length d.justs)) (nat_lt j (2 ^ 32)) e in record { default = d; is_it = is; enough = grind (arith, nat_tests); fits = grind (arith, nat_tests) }

just_is : (ds : List Default) (n j : ℕ) → HasJust ds (n - 1) j → is_just (map justs_in ds) n j ≡ true
just_is ds n j h =
    let e = h.enough in
    let f = h.fits in
    let there : slice_get (map justs_in ds) (n - 1) ≡ Some (length h.default.justs) = slice_get-map justs_in ds (n - 1) ∙ ap (option_map justs_in) h.is_it in
    let small : (nat_le j (length h.default.justs) && nat_lt j (2 ^ 32)) ≡ true = (let a : nat_le j (length h.default.justs) ≡ true = grind (arith, nat_tests) in let b : nat_lt j (2 ^ 32) ≡ true = grind (arith, nat_tests) in rw (a, b) refl) in
    ap (λ (o : Option ℕ). option_map_or (λ count. nat_le j count && nat_lt j (2 ^ 32)) o false) there ∙ small

pub made_paired : {A B C : Type 0} (f : A × B → C) (x : A) (r : Reading B) → mapped_reading f (paired x r) ≡ mapped_reading (λ y. f (x, y)) r
made_paired f x (Ok r) = refl
made_paired f x (Err n) = refl

-- ---- where the atoms have these names, and the defaults these numbers of justifications; only one default may be named where one is given
module _ (names : List Name) (few : length names ≤ 64) (tells : AreTellable names) (items : List Item) (justs : List ℕ) (justs_are : justs ≡ map justs_in (defaults_of items)) (few_defaults : length justs ≤ 10) (only : Option ℕ) where
  -- unsupported
  unsupported_line : ReadsLine (IsPassing (IsAtMost (length justs)) (may_be_named only)) (λ n. codes "unsupported " ++ decimal n) (unsupported_of justs only)
  unfolding unsupported_of
  unsupported_line = guarded_line (IsAtMost (length justs)) (λ n. codes "unsupported " ++ decimal n) (number_after (codes "unsupported ") (length justs)) (number_after_line (codes "unsupported ") (length justs)) (may_be_named only)

  abbrev as_unsupported : ℕ × Entailment → Absence
  as_unsupported ne = Unsupported ne.0 ne.1

  unsupported_told : (ne : ℕ × Entailment) → both_lines (one_line (λ n. codes "unsupported " ++ decimal n)) (λ n. told names entailment_lines) ne ≡ told names absence_lines (as_unsupported ne)
  unfolding line_text
  unsupported_told ne = refl

  abbrev IsUnsupported : Absence → Type 0
  IsUnsupported = Image as_unsupported (AreBoth (IsPassing (IsAtMost (length justs)) (may_be_named only)) (λ n. IsNo names))

  abbrev read_unsupported : At → Reading Absence
  read_unsupported at = mapped_reading as_unsupported (both (λ n. no_at names) (picked (unsupported_of justs only) at))

  reads_unsupported : ReadsLines IsUnsupported (told names absence_lines) Stops read_unsupported
  reads_unsupported =
      let line = reads_line (IsPassing (IsAtMost (length justs)) (may_be_named only)) (λ n. codes "unsupported " ++ decimal n) (unsupported_of justs only) unsupported_line in
      let pair = reads_both (IsPassing (IsAtMost (length justs)) (may_be_named only)) _ Anything (picked (unsupported_of justs only)) (λ n. IsNo names) (λ n. told names entailment_lines) Stops (λ n. no_at names) line (λ n is. reads_no names few tells) (λ n is. some_no names few tells) (λ n e more is known end. tt) in
      reads_made _ _ Stops _ as_unsupported (told names absence_lines) pair (λ ne is. unsupported_told ne)

  -- blocked
  two_line : ReadsLine (IsBlockOf justs only) two_text (two_of (may_block justs only))
  two_line = record {
    sound = λ line nj e. (
        let (mk, small, spelled, was) = two_spelled (may_block justs only) line nj e in
        let (passes, same) = cond_some (is_just justs mk.0 mk.1 && may_be_named only mk.0) mk nj was in
        (subst (IsBlockOf justs only) same (small, passes), spelled ∙ ap two_text same));
    complete = λ nj is. two_read (may_block justs only) nj.0 nj.1 is.0 ∙ ap (λ (b : Bool). guarded b nj) is.1;
  }

  blocked_line : ReadsLine (IsBlockOf justs only) (λ nj. codes "blocked " ++ two_text nj) (blocked_of justs only)
  unfolding blocked_of
  blocked_line = after_line (codes "blocked ") (IsBlockOf justs only) two_text (two_of (may_block justs only)) two_line

  abbrev as_blocked : (ℕ × ℕ) × Entailment → Absence
  as_blocked be = Blocked be.0.0 be.0.1 be.1

  blocked_told : (be : (ℕ × ℕ) × Entailment) → both_lines (one_line (λ nj. codes "blocked " ++ two_text nj)) (λ nj. told names entailment_lines) be ≡ told names absence_lines (as_blocked be)
  unfolding line_text
  blocked_told be = refl

  abbrev IsBlocked : Absence → Type 0
  IsBlocked = Image as_blocked (AreBoth (IsBlockOf justs only) (λ nj. IsYes))

  abbrev read_blocked : At → Reading Absence
  read_blocked at = mapped_reading as_blocked (both (λ nj. yes_at) (picked (blocked_of justs only) at))

  reads_blocked : ReadsLines IsBlocked (told names absence_lines) Stops read_blocked
  reads_blocked =
      let line = reads_line (IsBlockOf justs only) (λ nj. codes "blocked " ++ two_text nj) (blocked_of justs only) blocked_line in
      let pair = reads_both (IsBlockOf justs only) _ Anything (picked (blocked_of justs only)) (λ nj. IsYes) (λ nj. told names entailment_lines) Stops (λ nj. yes_at) line (λ nj is. reads_yes names few tells) (λ nj is. some_yes names few tells) (λ nj e more is known end. tt) in
      reads_made _ _ Stops _ as_blocked (told names absence_lines) pair (λ be is. blocked_told be)

  -- either
  says_unsupported : (a : Absence) (rest : List (List ℕ)) → IsUnsupported a → is_read (unsupported_of justs only) (head_line (told names absence_lines a ++ rest)) ≡ true
  unfolding line_text
  says_unsupported a rest (ne, is, known) =
      ap (λ (b : Absence). is_read (unsupported_of justs only) (head_line (told names absence_lines b ++ rest))) is ∙ ap is_some (unsupported_line.complete ne.0 known.0)

  says_blocked : (a : Absence) (rest : List (List ℕ)) → IsBlocked a → is_read (unsupported_of justs only) (head_line (told names absence_lines a ++ rest)) ≡ false
  unfolding line_text unsupported_of number_after after_prefix
  says_blocked a rest (be, is, known) = ap (λ (b : Absence). is_read (unsupported_of justs only) (head_line (told names absence_lines b ++ rest))) is

  by_second : (at : At) (o : Option (ℕ × ℕ)) → mapped_reading as_blocked (both (λ nj. yes_at) (taken_at at o)) ≡ blocked_at at o
  by_second at None = refl
  by_second at (Some b) = made_paired as_blocked b (yes_at (advanced at))

  by_first : (at : At) (o : Option ℕ) → cond (is_some o) (mapped_reading as_unsupported (both (λ n. no_at names) (taken_at at o))) (read_blocked at) ≡ unsupported_at names at o (blocked_at at (line_at (blocked_of justs only) at))
  by_first at None = by_second at (line_at (blocked_of justs only) at)
  by_first at (Some n) = made_paired as_unsupported n (no_at names (advanced at))

  absence_same : (at : At) → chosen_at (is_read (unsupported_of justs only)) read_unsupported read_blocked at ≡ absence_at names justs only at
  unfolding absence_at
  absence_same at = by_first at (line_at (unsupported_of justs only) at)

  -- in its words
  abbrev pub IsAbsenceFor : Absence → Type 0
  IsAbsenceFor a = IsAbsence names items a × (may_be_named only (number_of_absence a) ≡ true)

  to_absence : (a : Absence) → IsEitherOf IsUnsupported IsBlocked a → IsAbsenceFor a
  to_absence a (inl ((n, e), is, (((small, low), named), known))) =
      subst IsAbsenceFor (sym is) (((small.0, (let c = counted_justs items justs justs_are in grind (arith, nat_tests))), known), named)
  to_absence a (inr (((n, j), e), is, ((small, may_name), known))) =
      let (just, named) = and_parts (is_just justs n j) (may_be_named only n) may_name in
      let h = just_told (defaults_of items) n j (ap (λ (js : List ℕ). is_just js n j) (sym justs_are) ∙ just) in
      subst IsAbsenceFor (sym is) (((h.default, numbered items n small.0.0 ∙ h.is_it, small.1.0, h.enough, h.fits), known), named)

  from_absence : (a : Absence) → IsAbsenceFor a → IsEitherOf IsUnsupported IsBlocked a
  from_absence (Unsupported n e) ((number, known), named) =
      let c = counted_justs items justs justs_are in
      let low = number.0 in
      let most = number.1 in
      let small : IsSmallNumber n = (low, omega (arith, most, c, few_defaults)) in
      let within : n ≤ length justs = omega (arith, most, c) in
      inl ((n, e), refl, (((small, grind (arith, nat_tests)), named), known))
  from_absence (Blocked n j e) ((just, known), named) =
      let (d, is_it, low, enough, fits) = just in
      let some : 0 < n = from_some n d is_it in
      let there : slice_get (defaults_of items) (n - 1) ≡ Some d = sym (numbered items n some) ∙ is_it in
      let within = slice_get_within (defaults_of items) (n - 1) d there in
      let c = counted_justs items justs justs_are in
      let small : AreSmall (n, j) = ((some, omega (arith, within, c, few_defaults)), (low, omega (arith, fits))) in
      let has : is_just justs n j ≡ true = ap (λ (js : List ℕ). is_just js n j) justs_are ∙ just_is (defaults_of items) n j (record { default = d; is_it = there; enough = enough; fits = fits }) in
      inr (((n, j), e), refl, ((small, rw (has, named) refl), known))
    where
      from_some : (n : ℕ) (d : Default) → numbered_default items n ≡ Some d → 0 < n
      from_some zero d e = absurd (cc)
      from_some (suc n) d e = omega arith

  pub reads_absence : ReadsLines IsAbsenceFor (told names absence_lines) Stops (absence_at names justs only)
  reads_absence = reads_same _ IsAbsenceFor _ (told names absence_lines) Stops _ (absence_at names justs only)
      (reads_chosen IsUnsupported IsBlocked (told names absence_lines) Stops read_unsupported read_blocked (is_read (unsupported_of justs only)) reads_unsupported reads_blocked says_unsupported says_blocked) to_absence from_absence (λ a is. refl) absence_same

pub absence_begins : (names : List Name) (Is : Absence → Type 0) → Begin Is (told names absence_lines)
unfolding line_text step_of after_prefix
absence_begins names Is (Unsupported n e) rest is = refl
absence_begins names Is (Blocked n j e) rest is = refl
