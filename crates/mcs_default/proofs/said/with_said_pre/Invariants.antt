use Rattle.std.proofs.Common.{◌≡◌, ℕ, List, true, Some, map, slice_get}
use Rattle.std.specs.List.{AllByRecursion}
use Rattle.mcs_sets.specs.Sets.{has}
use Rattle.mcs_system.specs.Logic.{Entails}
use Rattle.mcs_system.specs.Plain.{Formula, Default}
use Rattle.mcs_system.specs.Seen.{formula_of, default_of}
use Rattle.mcs_default.proofs.said.with_said_pre.Given as goal

abbrev pub invariant-loop-index : goal.invariant-loop-index
invariant-loop-index l = (fs : List Formula) → AllByRecursion (Entails fs) (map (λ f. formula_of f.now) l.said)
    → (k : ℕ) → has l.places k ≡ true → (d : Default) → slice_get (map (λ d'. default_of d'.now) l.defaults) k ≡ Some d → Entails fs d.pre
