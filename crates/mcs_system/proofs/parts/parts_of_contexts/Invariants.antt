use Rattle.std.proofs.Common.{◌≡◌, length, map, nat_lt}
use Rattle.std.specs.List.{range_with_len}
use Rattle.mcs_system.specs.Atoms.{atoms_of}
use Rattle.mcs_system.specs.Parts.{context_part, context_part_of}
use Rattle.mcs_system.specs.Built.{made_of}
use Rattle.mcs_system.proofs.parts.parts_of_contexts.Given as goal
use Rattle.mcs_base.proofs.Ranges.{some_from}

abbrev pub invariant-loop-context : goal.invariant-loop-context
invariant-loop-context l =
    record {
      parts : map context_part_of l.parts.items ≡ map (context_part (made_of l.contexts l.bridges)) (range_with_len 0 l.context);
      left :
          some_from (λ i. nat_lt 64 (length (atoms_of (made_of l.contexts l.bridges) i))) l.context (length l.contexts.items.items)
          ≡ some_from (λ i. nat_lt 64 (length (atoms_of (made_of l.contexts l.bridges) i))) 0 (length l.contexts.items.items);
    }
