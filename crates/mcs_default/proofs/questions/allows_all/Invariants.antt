use Rattle.std.proofs.Common.{List, map, take}
use Rattle.std.specs.List.{AllByRecursion}
use Rattle.mcs_system.specs.Plain.{Item, Not}
use Rattle.mcs_system.specs.Logic.{Entails}
use Rattle.mcs_system.specs.Seen.{formula_of}
use Rattle.mcs_evidence.specs.Defaults.{generated}
use Rattle.mcs_default.specs.Asked.{IsSameTheory, IsSearchOf}
use Rattle.mcs_default.proofs.questions.allows_all.Given as goal

abbrev pub invariant-loop-just : goal.invariant-loop-just
invariant-loop-just l = record {
  kept : IsSameTheory l.fn.search l.search;
  allowed : (items : List Item) → IsSearchOf items l.fn.search
      → AllByRecursion (λ j. ¬ Entails (generated items l.set) (Not j)) (map formula_of (take l.just-index l.justs));
}
