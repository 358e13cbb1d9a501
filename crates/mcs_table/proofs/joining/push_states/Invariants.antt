use Rattle.std.proofs.Common.{◌≡◌, ◌++◌, map, take}
use Rattle.mcs_sets.specs.Sets.{union}
use Rattle.mcs_table.specs.declared.row.Row as declared
use Rattle.mcs_table.proofs.joining.push_states.Given as goal

abbrev pub invariant-loop-partner : goal.invariant-loop-partner
invariant-loop-partner l = l.states.items ≡ l.fn.states.items ++ map (λ (r : declared.Row). union l.state r.state.values) (take l.partner-index l.partners)
