-- How a join looks rows up: by what they say of the other table's variables, and by how many marks they have.
use Rattle.std.specs.Prelude.{◌≡◌, ℕ, Bool, true, false, List}
use Rattle.std.specs.declared.cmp.Ordering.{Ordering}
use Rattle.std.specs.Ordering.{ordering_then, nat_cmp, is_lt, is_le}
use Rattle.std.specs.List.Sorted.{IsSortedByKey, IsPartitionPoint}
use Rattle.mcs_sets.specs.Sets.{common, size}
use Rattle.mcs_base.specs.StateOrder.{state_cmp}
use Rattle.mcs_table.specs.declared.row.Row.{Row}

-- what the row says of the variables, and how many marks it has
abbrev pub shared_key : ℕ → Row → ℕ × ℕ
shared_key scope r = (common r.state.values scope, size r.marks)

abbrev pub key_cmp : ℕ × ℕ → ℕ × ℕ → Ordering
key_cmp p q = ordering_then (state_cmp p.0 q.0) (nat_cmp p.1 q.1)

-- the row's key is below another
abbrev pub is_below : ℕ → ℕ × ℕ → Row → Bool
is_below scope key r = is_lt (key_cmp (shared_key scope r) key)

-- it is no greater
abbrev pub is_up_to : ℕ → ℕ × ℕ → Row → Bool
is_up_to scope key r = is_le (key_cmp (shared_key scope r) key)

-- where, in a list, those that pass a test end
abbrev pub PassingEndsAt : (Row → Bool) → List Row → ℕ → Type 0
PassingEndsAt p rows i = IsPartitionPoint (λ r. p r ≡ true) (λ r. p r ≡ false) rows i

-- sorted by it
abbrev pub IsByShared : ℕ → List Row → Type 0
IsByShared scope rows = IsSortedByKey (shared_key scope) key_cmp rows
