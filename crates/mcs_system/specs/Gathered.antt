-- What a walk over occurrences gathers: each thing at its first occurrence.
use Rattle.std.specs.Prelude.{◌≡◌, ℕ, ◌<◌, ◌≤◌, nat_eq, Bool, List, [], ◌∷◌, ◌++◌, cond, filter, length, Some, Result, OnOk, IfErr}
use Rattle.std.specs.List.{list_any}
use Rattle.mcs_system.specs.declared.fault.BuildFault.{BuildFault}
use Rattle.mcs_system.specs.declared.fault.BuildFault.TheVariants.{Fault, Memory}
use Rattle.mcs_system.specs.declared.limit.Limit.{Limit}
use Rattle.mcs_system.specs.declared.limit.Limit.TheVariants.{Variables, AtomsPerContext}
use Rattle.mcs_system.specs.Limits.{most}
use Rattle.mcs_system.specs.Plain.{Name, Read, Bridge}
use Rattle.mcs_system.specs.Logic.{same_name, atoms}
use Rattle.mcs_system.specs.Systems.{same_read}

-- what was found before, and after it each of the others at its first occurrence, unless it is there
abbrev pub gathered : {A : Type 0} → (A → A → Bool) → List A → List A → List A
gathered same found [] = found
gathered same found (x ∷ xs) = gathered same (cond (list_any (same x) found) found (found ++ x ∷ [])) xs

-- memory ran out, or the limit is told, and it is exceeded
abbrev pub IsLimitDue : Limit → Type 0 → BuildFault → Type 0
IsLimitDue limit exceeded Memory = Unit {0}
IsLimitDue limit exceeded (Fault n l) = (n ≡ 5) × (l ≡ Some limit) × exceeded

-- the others are found too; or the limit is exceeded with them, or memory ran out
pub record Gathers {A T : Type 0} (limit : Limit) (same : A → A → Bool) (found now others : List A) (result : Result T BuildFault) : Type 0 where
  pub all : OnOk result (now ≡ gathered same found others)
  pub within : length found ≤ most limit → OnOk result (length now ≤ most limit)
  pub due : IfErr result (IsLimitDue limit (most limit < length (gathered same found others)))

-- of names that are atoms of one context
abbrev pub GathersNames : {T : Type 0} → List Name → List Name → List Name → Result T BuildFault → Type 0
GathersNames found now names result = Gathers AtomsPerContext same_name found now names result

-- of reads that are variables
abbrev pub GathersReads : {T : Type 0} → List Read → List Read → List Read → Result T BuildFault → Type 0
GathersReads found now reads result = Gathers Variables same_read found now reads result

-- those of the reads that are of context i
abbrev pub reads_in : ℕ → List Read → List Read
reads_in i reads = filter (λ r. nat_eq r.context i) reads

-- the atoms of the rule's head, if it goes into context i
abbrev pub head_atoms : ℕ → Bridge → List Name
head_atoms i b = cond (nat_eq b.target i) (atoms b.head) []

-- the atoms of the belief, if it is of context i
abbrev pub belief_atoms : ℕ → Read → List Name
belief_atoms i r = cond (nat_eq r.context i) (atoms r.belief) []
