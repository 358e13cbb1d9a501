-- States of some of the variables.
use Rattle.std.specs.Prelude.{◌≡◌, ℕ, ◌^◌, ◌<◌, IsTrue}
use Rattle.mcs_sets.specs.Sets.{has, union, common, Within}

-- the variables of the mask have a value each: those of the values are true
pub record PartialState : Type 0 where
  pub mask : ℕ
  pub values : ℕ

pub record IsPartial (s : PartialState) : Type 0 where
  pub of_mask : Within s.values s.mask
  pub small : s.mask < 2 ^ 64

-- both agree where both have a value
abbrev pub Fits : PartialState → PartialState → Type 0
Fits s t = (v : ℕ) → IsTrue (has s.mask v) → IsTrue (has t.mask v) → has s.values v ≡ has t.values v

-- what one of them says
abbrev pub united : PartialState → PartialState → PartialState
united s t = record { mask = union s.mask t.mask; values = union s.values t.values }

-- what it says of the variables of a set
abbrev pub restricted : PartialState → ℕ → PartialState
restricted s set = record { mask = common s.mask set; values = common s.values set }
