-- A rule that may be added, as far as variables, inputs and atoms are left aside.
use Rattle.std.specs.Prelude.{◌≡◌, ◌<◌, false, nat_eq, nat_lt, List, map, length, count_by}
use Rattle.mcs_system.specs.Plain.{Context, Bridge}
use Rattle.mcs_system.specs.Logic.{is_in}
use Rattle.mcs_system.specs.Faults.{points_outside, has_misfit, has_large_part}

-- by itself it has no fault
pub record IsSound (contexts : List Context) (b : Bridge) : Type 0 where
  pub known : points_outside (length contexts) b ≡ false
  pub fitting : has_misfit contexts b ≡ false
  pub light : nat_lt 1000000 b.weight ≡ false
  pub small : has_large_part b ≡ false

-- nor beside the others
pub record IsFitting (contexts : List Context) (rules : List Bridge) (b : Bridge) : Type 0 where
  pub new : is_in b.name (map (λ (c : Bridge). c.name) rules) ≡ false
  pub room : length rules < 64
  pub room_there : count_by (λ (c : Bridge). nat_eq c.target b.target) rules < 12
  pub sound : IsSound contexts b
