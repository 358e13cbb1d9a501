-- A pair of sets of rules is one set of marks: 2r where r is in the first set, 2r + 1 where it is in the second.
use Rattle.std.specs.Prelude.{ℕ, ◌+◌, ◌*◌}
use Rattle.mcs_sets.specs.Sets.{has, such_that}

-- the first set: the rules that are removed
unfoldable pub removed_of : ℕ → ℕ
removed_of pair = such_that pair (λ r. has pair (2 * r))

-- the second set: the rules that are forced
unfoldable pub forced_of : ℕ → ℕ
forced_of pair = such_that pair (λ r. has pair (2 * r + 1))
