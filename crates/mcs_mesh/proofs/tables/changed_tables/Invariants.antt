use Rattle.std.proofs.Common.{ℕ, ◌≤◌}
use Rattle.mcs_sets.specs.Sets.{size}
use Rattle.mcs_mesh.specs.Players.{known_to}
use Rattle.mcs_mesh.specs.Rounds.{AreKnown}
use Rattle.mcs_mesh.proofs.TableLemmas.{AreSomeChanged}
use Rattle.mcs_mesh.proofs.tables.changed_tables.Given as goal

abbrev pub invariant-loop-i : goal.invariant-loop-i
invariant-loop-i g l = (k : ℕ) → size l.pair ≤ k → AreKnown l.plan k (known_to l.nodes) → AreSomeChanged l.plan k l.pair l.i l.tables.items
