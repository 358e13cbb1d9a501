-- Which parts of defaults hold under an assignment.
use Rattle.std.specs.Prelude.{◌≡◌, ℕ, Bool, false, List, length, Option, Some, None, slice_get}
use Rattle.mcs_sets.specs.Sets.{such_that}
use Rattle.mcs_system.specs.Plain.{Name, Default}
use Rattle.mcs_system.specs.Logic.{holds, holds_all}
use Rattle.mcs_default.specs.declared.findings.Upper as upper
use Rattle.mcs_default.specs.declared.models.Part as part
use Rattle.mcs_default.specs.declared.models.Part.TheVariants as parts

abbrev pub holds_part : List Name → part.Part → Default → Bool
holds_part a parts.Prerequisite d = holds a d.pre
holds_part a parts.Justifications d = holds_all a d.justs
holds_part a parts.Consequent d = holds a d.conclusion

abbrev pub holds_part_of : List Name → part.Part → Option Default → Bool
holds_part_of a p None = false
holds_part_of a p (Some d) = holds_part a p d

-- the part of the default at this place holds
abbrev pub holds_part_at : List Name → part.Part → List Default → ℕ → Bool
holds_part_at a p ds k = holds_part_of a p (slice_get ds k)

-- the places of the defaults of which the part holds
abbrev pub with_part : List Name → part.Part → List Default → ℕ
with_part a p ds = such_that (length ds) (holds_part_at a p ds)

-- of this many defaults the bound tells which parts hold under the assignment, whose places these are
pub record ShowsParts (a : List Name) (count : ℕ) (ds : List Default) (places : ℕ) (e : upper.Upper) : Type 0 where
  pub values : e.values ≡ places
  pub set : e.set ≡ such_that count (holds_part_at a parts.Consequent ds)
  pub supported : e.supported ≡ such_that count (holds_part_at a parts.Prerequisite ds)
  pub allowed : e.allowed ≡ such_that count (holds_part_at a parts.Justifications ds)
