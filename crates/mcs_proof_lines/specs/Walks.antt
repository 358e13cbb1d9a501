-- How the lines of an answer are read one after the other, as functions by which the code is told.
use Rattle.std.specs.Prelude.{◌≡◌, ◌≤◌, ◌<◌, ℕ, zero, suc, ◌+◌, ◌-◌, ◌^◌, nat_eq, nat_lt, nat_le, Bool, true, false, ◌&&◌, cond, List, [], ◌∷◌, ◌++◌, length, take, drop, codes, Option, Some, None, Result, Ok, Err, slice_get, slice_index}
use Rattle.std.specs.Option.{option_and_then, option_map_or}
use Rattle.std.specs.Str.{bytes_eq}
use Rattle.mcs_trace.specs.Traces.{Inference}
use Rattle.mcs_cnf.specs.Entailments.{Entailment, Yes, No}
use Rattle.mcs_evidence.specs.Defaults.{Absence, Unsupported, Blocked}
use Rattle.mcs_spelling.specs.Words.{after_prefix, place_of_byte, number_of_bytes, set_of, step_of, guarded}
use Rattle.mcs_spelling.specs.Lines.{is_empty}
use Rattle.mcs_proof_lines.specs.declared.fault.ReportFault.{ReportFault}
use Rattle.mcs_proof_lines.specs.declared.fault.ReportFault.TheVariants as faults

-- ---- where a reader is: how many lines were taken, the lines to come, and what follows the last line feed
pub record At : Type 0 where
  pub taken : ℕ
  pub rest : List (List ℕ)
  pub tail : List ℕ

abbrev pub head_line : List (List ℕ) → Option (List ℕ)
head_line [] = None
head_line (line ∷ lines) = Some line

abbrev pub next_line : At → Option (List ℕ)
next_line at = head_line at.rest

abbrev pub advanced_by : ℕ → List (List ℕ) → List ℕ → At
advanced_by taken [] tail = record { taken = taken; rest = []; tail = tail }
advanced_by taken (line ∷ lines) tail = record { taken = taken + 1; rest = lines; tail = tail }

-- with one line more taken, if there is one
unfoldable pub advanced : At → At
advanced at = advanced_by at.taken at.rest at.tail

-- ---- readings: a value, and where the reader is then, or the number of the line that is out of place
abbrev pub Reading : Type 0 → Type 0
Reading A = Result (A × At) ℕ

infixl 10 ◌>>=◌
abbrev pub ◌>>=◌ : {A B : Type 0} → Result A ℕ → (A → Result B ℕ) → Result B ℕ
(Ok x) >>= f = f x
(Err n) >>= f = Err n

-- what the code returned is what the reading gives, unless memory ran out
abbrev pub ReturnsReading : {A : Type 0} → ReportFault → Result A ℕ → Type 0
ReturnsReading faults.Memory read = Unit {0}
ReturnsReading (faults.Grammar line) read = read ≡ Err line

abbrev pub Gives : {X A : Type 0} → (X → A) → Result X ReportFault → At → Reading A → Type 0
Gives view (Ok x) now read = read ≡ Ok (view x, now)
Gives view (Err e) now read = ReturnsReading e read

-- the same of what gives no value
abbrev pub Passes : Result (Unit {0}) ReportFault → At → Result At ℕ → Type 0
Passes (Ok x) now read = read ≡ Ok now
Passes (Err e) now read = ReturnsReading e read

abbrev pub fault_at : {A : Type 0} → At → Result A ℕ
fault_at at = Err (at.taken + 1)

-- the line that is next, if the function reads it
abbrev pub line_at : {A : Type 0} → (List ℕ → Option A) → At → Option A
line_at f at = option_and_then f (next_line at)

-- a value that was read of the next line, which has to be there
abbrev pub taken_at : {A : Type 0} → At → Option A → Reading A
taken_at at None = fault_at at
taken_at at (Some x) = Ok (x, advanced at)

abbrev pub is_next : List ℕ → At → Bool
is_next line at = option_map_or (λ next. bytes_eq next line) (next_line at) false

unfoldable pub expect_at : List ℕ → At → Result At ℕ
expect_at line at = cond (is_next line at) (Ok (advanced at)) (fault_at at)

-- ---- traces and entailments
-- the steps that are next, and where the reader is then
abbrev pub with_step : Option Inference → (List Inference × At) → At → (List Inference × At)
with_step None later here = ([], here)
with_step (Some s) later here = (s ∷ later.0, later.1)

abbrev pub steps_from : ℕ → List (List ℕ) → List ℕ → (List Inference × At)
steps_from taken [] tail = ([], record { taken = taken; rest = []; tail = tail })
steps_from taken (line ∷ lines) tail = with_step (step_of line) (steps_from (taken + 1) lines tail) (record { taken = taken; rest = line ∷ lines; tail = tail })

unfoldable pub steps_at : At → (List Inference × At)
steps_at at = steps_from at.taken at.rest at.tail

-- one step or more
abbrev pub one_or_more : (List Inference × At) → Reading (List Inference)
one_or_more r = cond (is_empty r.0) (fault_at r.1) (Ok r)

unfoldable pub trace_at : At → Reading (List Inference)
trace_at at = one_or_more (steps_at at)

unfoldable pub yes_at : At → Reading Entailment
yes_at at = do
  then ← expect_at (codes "yes") at
  trace ← trace_at then
  Ok (Yes trace.0, trace.1)

-- all places
abbrev pub everything : ℕ
everything = 18446744073709551615

abbrev pub atoms_of_line : List ℕ → List (List ℕ) → List ℕ → Option ℕ
atoms_of_line word texts line = option_and_then (set_of texts everything) (after_prefix word line)

unfoldable pub atoms_at : List ℕ → List (List ℕ) → At → Reading ℕ
atoms_at word texts at = taken_at at (line_at (atoms_of_line word texts) at)

unfoldable pub no_at : List (List ℕ) → At → Reading Entailment
no_at texts at = do
  atoms ← atoms_at (codes "no ") texts at
  Ok (No atoms.0, atoms.1)

unfoldable pub entailment_at : List (List ℕ) → At → Reading Entailment
entailment_at texts at = cond (is_next (codes "yes") at) (yes_at at) (no_at texts at)

-- so many of them, one after the other
abbrev pub many_at : {A : Type 0} → (At → Reading A) → ℕ → At → Reading (List A)
many_at p zero at = Ok ([], at)
many_at p (suc n) at = do
  first ← p at
  others ← many_at p n first.1
  Ok (first.0 ∷ others.0, others.1)

abbrev pub after_front : {A : Type 0} → List A → Reading (List A) → Reading (List A)
after_front front read = read >>= λ r. Ok (front ++ r.0, r.1)

-- ---- what is said of defaults, where the atoms have these texts, and the defaults these numbers of justifications
-- the number of a default, and that of one of its justifications; both are counted from 1
abbrev pub IsNumberOf : List ℕ → ℕ → Type 0
IsNumberOf justs n = (0 < n) × (n ≤ length justs)

pub record IsJustOf (justs : List ℕ) (b : ℕ × ℕ) : Type 0 where
  pub number : IsNumberOf justs b.0
  pub some : 0 < b.1
  pub enough : b.1 ≤ slice_index justs (b.0 - 1)

-- a number after a word, at most this
abbrev pub at_most : ℕ → ℕ → Option ℕ
at_most most n = guarded (nat_le n most) n

unfoldable pub number_after : List ℕ → ℕ → List ℕ → Option ℕ
number_after word most line = option_and_then (at_most most) (option_and_then number_of_bytes (after_prefix word line))

-- a default that may be named, where only one may be if one is given
abbrev pub may_be_named : Option ℕ → ℕ → Bool
may_be_named only n = option_map_or (nat_eq n) only true

unfoldable pub unsupported_of : List ℕ → Option ℕ → List ℕ → Option ℕ
unsupported_of justs only line = option_and_then (λ n. guarded (may_be_named only n) n) (number_after (codes "unsupported ") (length justs) line)

-- a default, and a justification of it
abbrev pub is_just : List ℕ → ℕ → ℕ → Bool
is_just justs n j = option_map_or (λ count. nat_le j count && nat_lt j (2 ^ 32)) (slice_get justs (n - 1)) false

abbrev pub may_block : List ℕ → Option ℕ → ℕ → ℕ → Option (ℕ × ℕ)
may_block justs only n j = guarded (is_just justs n j && may_be_named only n) (n, j)

unfoldable pub blocked_of : List ℕ → Option ℕ → List ℕ → Option (ℕ × ℕ)
blocked_of justs only line =
    option_and_then (λ rest. option_and_then (λ space. option_and_then (λ n. option_and_then (λ j. may_block justs only n j) (number_of_bytes (drop (space + 1) rest))) (number_of_bytes (take space rest))) (place_of_byte 32 rest))
    (after_prefix (codes "blocked ") line)

-- what a reading gives, made into something else
abbrev pub mapped_reading : {A B : Type 0} → (A → B) → Reading A → Reading B
mapped_reading f read = read >>= λ x. Ok (f x.0, x.1)

abbrev pub blocked_at : At → Option (ℕ × ℕ) → Reading Absence
blocked_at at None = fault_at at
blocked_at at (Some b) = mapped_reading (Blocked b.0 b.1) (yes_at (advanced at))

abbrev pub unsupported_at : List (List ℕ) → At → Option ℕ → Reading Absence → Reading Absence
unsupported_at texts at None other = other
unsupported_at texts at (Some n) other = mapped_reading (Unsupported n) (no_at texts (advanced at))

unfoldable pub absence_at : List (List ℕ) → List ℕ → Option ℕ → At → Reading Absence
absence_at texts justs only at = unsupported_at texts at (line_at (unsupported_of justs only) at) (blocked_at at (line_at (blocked_of justs only) at))

-- one for each of the numbers
abbrev pub each_at : {A : Type 0} → (ℕ → At → Reading A) → List ℕ → At → Reading (List A)
each_at p [] at = Ok ([], at)
each_at p (k ∷ ks) at = do
  first ← p k at
  others ← each_at p ks first.1
  Ok (first.0 ∷ others.0, others.1)

-- of the default at this place
abbrev pub absence_of_place : List (List ℕ) → List ℕ → ℕ → At → Reading Absence
absence_of_place texts justs k at = absence_at texts justs (Some (k + 1)) at
