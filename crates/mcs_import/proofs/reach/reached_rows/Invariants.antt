use Rattle.mcs_import.proofs.ReachLemmas.{ArePassed}
use Rattle.mcs_import.proofs.reach.reached_rows.Given as goal

abbrev pub invariant-loop-k : goal.invariant-loop-k
invariant-loop-k l = ArePassed l.system l.k l.rows.items
