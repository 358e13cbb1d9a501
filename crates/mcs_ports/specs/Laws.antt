-- What a count of faults that rose says: each is the contract of a function of `laws`.
use Rattle.std.specs.Prelude.{ℕ, ◌-◌, ◌^◌, ◌<◌, ◌≤◌, ◌⊎◌}
use Rattle.mcs_ports.specs.Causes.{Rose}

-- it is greater than before, or stands at the counter's last value
abbrev pub RisenCountsAreGreater : Type 0
RisenCountsAreGreater = (before now : ℕ) → Rose before now → (before < now) ⊎ (2 ^ 64 - 1 ≤ now)

-- a count that stays below the last value has not risen
abbrev pub StandingCountsHaveNotRisen : Type 0
StandingCountsHaveNotRisen = (count : ℕ) → count < 2 ^ 64 - 1 → ¬ Rose count count

-- a count that rose has risen over any earlier time too
abbrev pub RisesAddUp : Type 0
RisesAddUp = (first before now later : ℕ) → first ≤ before → Rose before now → now ≤ later → Rose first later
