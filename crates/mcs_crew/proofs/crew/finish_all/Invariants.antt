use Rattle.std.proofs.Common.{◌≤◌, vec_len, vec_capacity}
use Rattle.std.specs.List.{AllZip}
use Rattle.mcs_crew.specs.Children.{ComesBack, HasWorked}
use Rattle.mcs_crew.specs.declared.load.Load.{Load}
use Rattle.mcs_crew.proofs.crew.finish_all.Given as goal

abbrev pub invariant-loop-child : goal.invariant-loop-child
invariant-loop-child g l = record {
  back : AllZip (λ child load. (was : Load _) → ComesBack was child → HasWorked was load) l.yielded l.back.items;
  room : vec_len l.fn.children ≤ vec_capacity l.back;
}
