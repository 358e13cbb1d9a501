-- How the verdicts on sets of defaults, and the certificates of programs, are read, as functions by which the code is told.
use Rattle.std.specs.Prelude.{ℕ, zero, suc, ◌+◌, ◌-◌, ◌^◌, nat_eq, nat_lt, nat_le, Bool, false, cond, List, [], ◌∷◌, ◌++◌, length, codes, Option, Some, None, Ok, slice_index}
use Rattle.std.specs.Option.{option_and_then, option_map_or}
use Rattle.mcs_sets.specs.Sets.{members, minus, size}
use Rattle.mcs_evidence.specs.Defaults.{Verdict, Fails, Applied, Ungrounded, Extension}
use Rattle.mcs_spelling.specs.Lines.{is_empty}
use Rattle.mcs_spelling.specs.Words.{after_prefix, numbers_of, set_of, guarded}
use Rattle.mcs_proof_lines.specs.Walks.{At, Reading, ◌>>=◌, fault_at, advanced, line_at, yes_at, no_at, entailment_at, many_at, each_at, number_after, mapped_reading, absence_at, absence_of_place}
use Rattle.mcs_proof_lines.specs.declared.theory.Theory as code

-- ---- verdicts on sets of defaults
-- what the lines may name: the atoms, the numbers of the defaults, of each default how many justifications it has; and how many beliefs there are
pub record Terms : Type 0 where
  pub atoms : List (List ℕ)
  pub numbers : List (List ℕ)
  pub justs : List ℕ
  pub beliefs : ℕ

abbrev pub terms_of : code.Theory → Terms
terms_of t = record { atoms = t.atoms.now; numbers = t.numbers.now; justs = t.justs.now; beliefs = t.beliefs }

-- all defaults, as a set of their places
abbrev pub all_places : Terms → ℕ
all_places t = 2 ^ length t.justs - 1

unfoldable pub defaults_of_line : List ℕ → Terms → List ℕ → Option ℕ
defaults_of_line word t line = option_and_then (λ s. guarded (nat_lt s (2 ^ 32)) s) (option_and_then (set_of t.numbers (all_places t)) (after_prefix word line))

-- numbers that are all at most this
abbrev pub within_from : ℕ → List ℕ → List ℕ → Option (List ℕ)
within_from most taken [] = Some taken
within_from most taken (n ∷ ns) = cond (nat_le n most) (within_from most (taken ++ n ∷ []) ns) None

abbrev pub some_order : ℕ → List ℕ → Option (List ℕ)
some_order most rest = option_and_then (within_from most []) (option_and_then numbers_of (after_prefix (codes " ") rest))

unfoldable pub order_of : ℕ → List ℕ → Option (List ℕ)
order_of most line = option_and_then (λ rest. cond (is_empty rest) (Some []) (some_order most rest)) (after_prefix (codes "extension") line)

-- how many justifications the defaults at these places have
abbrev pub just_total : List ℕ → List ℕ → ℕ
just_total justs [] = 0
just_total justs (k ∷ ks) = slice_index justs k + just_total justs ks

unfoldable pub extension_at : Terms → ℕ → List ℕ → At → Reading Verdict
extension_at t set order at = do
  pres ← many_at yes_at (length order) at
  justs ← many_at (no_at t.atoms) (just_total t.justs (members set)) pres.1
  outside ← each_at (absence_of_place t.atoms t.justs) (members (minus (all_places t) set)) justs.1
  outputs ← many_at (entailment_at t.atoms) t.beliefs outside.1
  Ok (Extension order pres.0 justs.0 outside.0 outputs.0, outputs.1)

unfoldable pub applied_at : Terms → ℕ → At → Reading Verdict
applied_at t number at = do
  pre ← yes_at at
  justs ← many_at (no_at t.atoms) (slice_index t.justs (number - 1)) pre.1
  Ok (Applied number pre.0 justs.0, justs.1)

unfoldable pub ungrounded_at : Terms → ℕ → ℕ → At → Reading Verdict
ungrounded_at t set closed at = do
  pres ← many_at (no_at t.atoms) (size (minus set closed)) at
  Ok (Ungrounded closed pres.0, pres.1)

abbrev pub or_absence : Terms → At → Reading Verdict
or_absence t at = mapped_reading Fails (absence_at t.atoms t.justs None at)

abbrev pub or_extension : Terms → ℕ → At → Option (List ℕ) → Reading Verdict
or_extension t set at None = or_absence t at
or_extension t set at (Some order) = extension_at t set order (advanced at)

abbrev pub or_ungrounded : Terms → ℕ → At → Option ℕ → Reading Verdict
or_ungrounded t set at None = or_extension t set at (line_at (order_of (length t.justs)) at)
or_ungrounded t set at (Some closed) = ungrounded_at t set closed (advanced at)

abbrev pub or_applied : Terms → ℕ → At → Option ℕ → Reading Verdict
or_applied t set at None = or_ungrounded t set at (line_at (defaults_of_line (codes "ungrounded ") t) at)
or_applied t set at (Some number) = applied_at t number (advanced at)

unfoldable pub verdict_at : Terms → ℕ → At → Reading Verdict
verdict_at t set at = or_applied t set at (line_at (number_after (codes "applied ") (length t.justs)) at)

-- whether the next line names the set
abbrev pub names_set : Terms → ℕ → At → Bool
names_set t set at = option_map_or (nat_eq set) (line_at (defaults_of_line (codes "set ") t) at) false

unfoldable pub set_at : Terms → ℕ → At → Reading Verdict
set_at t set at = cond (names_set t set at) (verdict_at t set (advanced at)) (fault_at at)

-- the sets of defaults from number k on
abbrev pub sets_from : Terms → ℕ → ℕ → At → Reading (List Verdict)
sets_from t k zero at = Ok ([], at)
sets_from t k (suc n) at = do
  first ← set_at t k at
  others ← sets_from t (k + 1) n first.1
  Ok (first.0 ∷ others.0, others.1)

unfoldable pub verdicts_at : Terms → At → Reading (List Verdict)
verdicts_at t at = sets_from t 0 (2 ^ length t.justs) at
