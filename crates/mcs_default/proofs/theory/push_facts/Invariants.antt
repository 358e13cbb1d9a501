use Rattle.std.proofs.Common.{◌≡◌, ◌≤◌, drop, map, length}
use Rattle.mcs_system.specs.Seen.{item_of}
use Rattle.mcs_cnf.specs.ClauseLists.{with_formulas}
use Rattle.mcs_evidence.specs.Defaults.{AreOverItems, facts_of}
use Rattle.mcs_default.proofs.theory.push_facts.Given as goal

abbrev pub invariant-loop-item : goal.invariant-loop-item
invariant-loop-item l = record {
  all : with_formulas l.atoms l.known (facts_of (map item_of (drop l.item-index l.items))) ≡ with_formulas l.atoms l.fn.known (facts_of (map item_of l.items));
  over : AreOverItems l.atoms (map item_of (drop l.item-index l.items));
  room : length l.atoms ≤ l.known.vars;
}
