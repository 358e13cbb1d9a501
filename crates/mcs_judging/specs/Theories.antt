-- What is told of the certificate of a default theory while it is read.
use Rattle.std.specs.Prelude.{◌≡◌, ◌↔◌, ◌≤◌, ℕ, Bool, true, false, ◌&&◌, nat_le, cond, List, [], ◌∷◌, ◌++◌, map, length, Option, Some, None, Ok, MatchOption}
use Rattle.std.specs.Option.{option_map_or}
use Rattle.mcs_sets.specs.Sets.{minus, members}
use Rattle.mcs_system.specs.Plain.{Name, Formula, Default, Item, Fact}
use Rattle.mcs_system.specs.Seen.{default_of, formula_of, item_of}
use Rattle.mcs_cnf.specs.ClauseLists.{AreOver}
use Rattle.mcs_cnf.specs.Entailments.{Entailment}
use Rattle.mcs_evidence.specs.Defaults.{Absence, Verdict, AreOverItems, defaults_of, IsAbsent}
use Rattle.mcs_extensions.specs.Checks.{IsComplete, IsVerdictJudged}
use Rattle.mcs_extensions.specs.declared.verdict.Judged as judged
use Rattle.mcs_extensions.specs.declared.verdict.Judged.TheVariants as variants
use Rattle.mcs_proof_lines.specs.Walks.{At, Reading, ◌>>=◌, no_at, entailment_at, many_at, each_at, absence_of_place}
use Rattle.mcs_proof_lines.specs.Verdicts.{Terms, all_places, just_total}
use Rattle.mcs_steps.specs.Words.{spaced_numbers}

-- ---- absences
-- the number that is told is that of a default of which it is shown that it is unsupported or blocked
abbrev pub TellsAbsence : List Name → List Item → List Formula → Option ℕ → Absence → Type 0
TellsAbsence names items fs told a = (n : ℕ) → (told ≡ Some n) ↔ IsAbsent names items fs n a

abbrev pub told_if : Bool → ℕ → Option ℕ
told_if shown n = cond shown (Some n) None

-- ---- the order of a set's defaults
-- the numbers that the bytes spell, each after a space
abbrev pub numbers_in : List ℕ → List ℕ
numbers_in bytes = option_map_or (λ ns. ns) (spaced_numbers bytes) []

abbrev pub AreNumbers : List ℕ → Type 0
AreNumbers bytes = spaced_numbers bytes ≡ Some (numbers_in bytes)

-- these are the numbers of an order that was read
abbrev pub IsOrderIn : Option (List ℕ) → List ℕ → Type 0
IsOrderIn order bytes = (order ≡ Some (numbers_in bytes)) × AreNumbers bytes

-- none is above this
abbrev pub all_within : ℕ → List ℕ → Bool
all_within most [] = true
all_within most (n ∷ ns) = nat_le n most && all_within most ns

-- ---- what is shown of a set that generates an extension after the order of its defaults
abbrev pub Completion : Type 0
Completion = List Entailment × List Absence × List Entailment

unfoldable pub complete_at : Terms → ℕ → At → Reading Completion
complete_at t set at = do
  justs ← many_at (no_at t.atoms) (just_total t.justs (members set)) at
  outside ← each_at (absence_of_place t.atoms t.justs) (members (minus (all_places t) set)) justs.1
  outputs ← many_at (entailment_at t.atoms) t.beliefs outside.1
  Ok ((justs.0, outside.0, outputs.0), outputs.1)

abbrev pub TellsCompletion : List Name → List Item → List Formula → List Formula → ℕ → Option ℕ → Completion → Type 0
TellsCompletion names items fs beliefs set told c = MatchOption told ((places : ℕ) → ¬ IsComplete names items fs beliefs set c.0 c.1 c.2 places) (λ places. IsComplete names items fs beliefs set c.0 c.1 c.2 places)

abbrev pub shown_if : Bool → Option ℕ → Option ℕ
shown_if shown view = cond shown view None

-- ---- verdicts
abbrev pub TellsVerdict : List Name → List Item → List Formula → ℕ → judged.Judged → Verdict → Type 0
TellsVerdict names items beliefs set told v = IsVerdictJudged names items beliefs set v told

-- the views so far and whether all is right so far, after one verdict more
abbrev pub IsNoted : judged.Judged → Bool → List ℕ → Bool → List ℕ → Type 0
IsNoted variants.Refused before old after new = (after ≡ false) × (new ≡ old)
IsNoted variants.Passed before old after new = (after ≡ before) × (new ≡ old)
IsNoted (variants.Shows view) before old after new = (after ≡ before) × (new ≡ old ++ view ∷ [])
