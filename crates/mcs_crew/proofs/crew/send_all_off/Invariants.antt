use Rattle.std.proofs.Common.{◌≤◌, vec_len, vec_capacity}
use Rattle.std.specs.List.{AllZip}
use Rattle.mcs_crew.specs.Children.{ComesBack}
use Rattle.mcs_crew.proofs.crew.send_all_off.Given as goal

abbrev pub invariant-loop-load : goal.invariant-loop-load
invariant-loop-load g l = record {
  back : AllZip ComesBack l.yielded l.children.items;
  room : vec_len l.fn.loads ≤ vec_capacity l.children;
}
