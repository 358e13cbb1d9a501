use Rattle.std.proofs.Common.{◌+◌, drop}
use Rattle.std.specs.List.{AllByRecursion}
use Rattle.mcs_sets.specs.Sets.{Within}
use Rattle.mcs_system.specs.Systems.{all_variables}
use Rattle.mcs_report.specs.Listing.{state_lines}
use Rattle.mcs_work.specs.Printed.{sort_word}
use Rattle.mcs_text.proofs.WriteLaws.{Goes}
use Rattle.mcs_work.proofs.printing.print_states.Given as goal

abbrev pub invariant-loop-k : goal.invariant-loop-k
invariant-loop-k g l = record {
  goes : Goes (state_lines (sort_word l.sort) l.system 1 l.states) (state_lines (sort_word l.sort) l.system (l.k + 1) (drop l.k l.states)) (g.K.Sink.device l.fn.sink) (g.K.Sink.device l.sink);
  within : AllByRecursion (λ σ. Within σ (all_variables l.system)) (drop l.k l.states);
}
