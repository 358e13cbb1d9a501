use Rattle.std.proofs.Common.{◌≡◌, Vec, Global, ℕ, map, take}
use Rattle.mcs_node.specs.Letters.{shared_states}
use Rattle.mcs_node.proofs.shared.lists_of.Given as goal

abbrev pub invariant-loop-list : goal.invariant-loop-list
invariant-loop-list l = map (λ (list : Vec ℕ Global). list.items) l.lists.items ≡ map shared_states (take l.list-index l.shared)
