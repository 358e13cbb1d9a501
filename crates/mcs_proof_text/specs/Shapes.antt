-- What the lines of a certificate may be: which numbers, sets and traces may stand where. What they claim is another matter.
use Rattle.std.specs.Prelude.{◌≡◌, ℕ, ◌+◌, ◌^◌, ◌<◌, ◌≤◌, List, [], length, Some, slice_get}
use Rattle.std.specs.List.{AllByRecursion, AllZip}
use Rattle.mcs_sets.specs.Sets.{minus, members, size, Within}
use Rattle.mcs_system.specs.Plain.{Name, Default, Item}
use Rattle.mcs_trace.specs.Traces.{Inference}
use Rattle.mcs_spelling.specs.Parts.{IsTraceStep}
use Rattle.mcs_cnf.specs.Entailments.{Entailment, Yes, No}
use Rattle.mcs_evidence.specs.Defaults.{Absence, Unsupported, Blocked, HasOneForEach, Verdict, Fails, Applied, Ungrounded, Extension, defaults_of, IsNumbered, defaults_in, negated_justs, all_defaults}
use Rattle.mcs_evidence.specs.Programs.{ModelShown, ProgramShown, IsInRange}

-- ---- traces
-- one step or more
abbrev pub IsTrace : List Inference → Type 0
IsTrace steps = (¬ (steps ≡ [])) × AllByRecursion IsTraceStep steps

-- ---- entailments, where the atoms have these names
abbrev pub IsYes : Entailment → Type 0
IsYes (Yes steps) = IsTrace steps
IsYes (No places) = ⊥

abbrev pub IsNo : List Name → Entailment → Type 0
IsNo names (Yes steps) = ⊥
IsNo names (No places) = IsInRange names places

-- either
abbrev pub IsEither : List Name → Entailment → Type 0
IsEither names (Yes steps) = IsTrace steps
IsEither names (No places) = IsInRange names places

-- so many of these
pub record AreMany (Is : Entailment → Type 0) (n : ℕ) (es : List Entailment) : Type 0 where
  pub many : length es ≡ n
  pub each : AllByRecursion Is es

-- ---- parts of verdicts on sets of defaults
abbrev pub IsDefaultNumber : List Item → ℕ → Type 0
IsDefaultNumber items n = (0 < n) × (n ≤ length (defaults_of items))

-- a default, and a justification of it; certificates have 32 bits for its number
abbrev pub IsJustNumber : List Item → ℕ → ℕ → Type 0
IsJustNumber items n j = (d : Default) × IsNumbered items n d × (0 < j) × (j ≤ length d.justs) × (j < 2 ^ 32)

-- a default is said to be unsupported, with what does not follow, or blocked, with what follows
abbrev pub IsAbsence : List Name → List Item → Absence → Type 0
IsAbsence names items (Unsupported n e) = IsDefaultNumber items n × IsNo names e
IsAbsence names items (Blocked n j e) = IsJustNumber items n j × IsYes e

-- the default that is spoken of
abbrev pub number_of_absence : Absence → ℕ
number_of_absence (Unsupported n e) = n
number_of_absence (Blocked n j e) = n

-- this one has to be
abbrev pub IsAbsenceOf : List Name → List Item → ℕ → Absence → Type 0
IsAbsenceOf names items k absence = (number_of_absence absence ≡ k + 1) × IsAbsence names items absence

-- how many justifications the defaults of the set have
abbrev pub just_count : List Item → ℕ → ℕ
just_count items set = length (negated_justs (defaults_in items set))

pub record IsAppliedShape (names : List Name) (items : List Item) (number : ℕ) (pre : Entailment) (justs : List Entailment) : Type 0 where
  pub default : Default
  pub is_it : IsNumbered items number default
  pub supported : IsYes pre
  pub allowed : AreMany (IsNo names) (length default.justs) justs

pub record IsUngroundedShape (names : List Name) (items : List Item) (set closed : ℕ) (pres : List Entailment) : Type 0 where
  pub part : Within closed (all_defaults items)
  pub unsupported : AreMany (IsNo names) (size (minus set closed)) pres

pub record IsExtensionShape (names : List Name) (items : List Item) (beliefs set : ℕ) (order : List ℕ) (pres justs : List Entailment) (outside : List Absence) (outputs : List Entailment) : Type 0 where
  pub numbers : AllByRecursion (IsDefaultNumber items) order
  pub grounded : AreMany IsYes (length order) pres
  pub allowed : AreMany (IsNo names) (just_count items set) justs
  pub complete : AllZip (IsAbsenceOf names items) (members (minus (all_defaults items) set)) outside
  pub shown : AreMany (IsEither names) beliefs outputs

-- a verdict on the set, where there are so many beliefs
abbrev pub IsDefaultVerdict : List Name → List Item → ℕ → ℕ → Verdict → Type 0
IsDefaultVerdict names items beliefs set (Fails absence) = IsAbsence names items absence
IsDefaultVerdict names items beliefs set (Applied number pre justs) = IsAppliedShape names items number pre justs
IsDefaultVerdict names items beliefs set (Ungrounded closed pres) = IsUngroundedShape names items set closed pres
IsDefaultVerdict names items beliefs set (Extension order pres justs outside outputs) = IsExtensionShape names items beliefs set order pres justs outside outputs

-- verdicts on the sets of defaults, in the order of their numbers
pub record AreVerdicts (names : List Name) (items : List Item) (beliefs : ℕ) (verdicts : List Verdict) : Type 0 where
  pub one_each : HasOneForEach items verdicts
  pub each : (set : ℕ) (v : Verdict) → slice_get verdicts set ≡ Some v → IsDefaultVerdict names items beliefs set v

-- ---- programs: a model for each state that is put out
abbrev pub IsModel : List Name → ModelShown → Type 0
IsModel names m = IsInRange names m.model × IsTrace m.minimal

pub record IsProgramShape (names : List Name) (outputs : List ℕ) (p : ProgramShown) : Type 0 where
  pub one_each : length p.models ≡ length outputs
  pub models : AllByRecursion (IsModel names) p.models
  pub smaller : AllByRecursion (IsInRange names) p.smaller
  pub rest : IsTrace p.rest
