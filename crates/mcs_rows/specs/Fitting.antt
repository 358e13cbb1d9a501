-- Answers with some of their parts.
use Rattle.std.specs.Prelude.{◌≡◌, ◌↔◌, ℕ, List}
use Rattle.mcs_sets.specs.Sets.{common}
use Rattle.mcs_base.specs.Listings.{IsAmong}
use Rattle.mcs_table.specs.Fitting.{AreFittingStates}
use Rattle.mcs_table.specs.Tables.{TableData}
use Rattle.mcs_rows.specs.declared.answer.Answer as code

-- the same question and the same parts
pub record HasSameParts (old new : code.Answer) : Type 0 where
  pub active : new.active ≡ old.active
  pub parts : new.parts.items ≡ old.parts.items

-- the same question, with just those of the parts whose projection onto the variables of the set is among these
pub record HasProjectedParts (projections : List ℕ) (set : ℕ) (old new : code.Answer) : Type 0 where
  pub active : new.active ≡ old.active
  pub parts : (s : ℕ) → IsAmong s new.parts.items ↔ (IsAmong s old.parts.items × IsAmong (common s set) projections)

-- the same question, with those of the parts that fit a row of each of the tables on the variables of the set, and maybe more of them
pub record HasFittingParts (set : ℕ) (tables : List TableData) (old new : code.Answer) : Type 0 where
  pub active : new.active ≡ old.active
  pub parts : AreFittingStates set tables old.parts.items new.parts.items
