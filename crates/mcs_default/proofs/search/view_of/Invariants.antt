use Rattle.std.proofs.Common.{List, map, take}
use Rattle.mcs_system.specs.Plain.{Item}
use Rattle.mcs_system.specs.Logic.{Theory}
use Rattle.mcs_system.specs.Views.{Shows}
use Rattle.mcs_system.specs.Seen.{formula_of}
use Rattle.mcs_evidence.specs.Defaults.{generated}
use Rattle.mcs_default.specs.Asked.{IsSameTheory, IsSearchOf}
use Rattle.mcs_default.proofs.search.view_of.Given as goal

abbrev pub invariant-loop-index : goal.invariant-loop-index
invariant-loop-index l = record {
  kept : IsSameTheory l.fn.search l.search;
  shown : (items : List Item) → IsSearchOf items l.fn.search
      → Shows (Theory (generated items l.set)) (map (λ b. formula_of b.now) (take l.index l.fn.search.theory.now.asked.now.beliefs.now)) l.view;
}
