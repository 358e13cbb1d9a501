use Rattle.std.proofs.Common.{◌≡◌, length, nat_lt}
use Rattle.mcs_sets.specs.Sets.{size}
use Rattle.mcs_system.specs.Rows.{inputs_of}
use Rattle.mcs_system.specs.Seen.{system_of}
use Rattle.mcs_system.proofs.parts.has_many_inputs.Given as goal
use Rattle.mcs_base.proofs.Ranges.{some_from}

abbrev pub invariant-loop-context : goal.invariant-loop-context
invariant-loop-context l =
    some_from (λ i. nat_lt 16 (size (inputs_of (system_of l.contexts l.bridges) i))) l.context (length l.contexts)
    ≡ some_from (λ i. nat_lt 16 (size (inputs_of (system_of l.contexts l.bridges) i))) 0 (length l.contexts)
