use Rattle.std.proofs.Common.{◌≡◌, ◌≤◌, ◌-◌}
use Rattle.mcs_sat.proofs.base.ClauseBase.widen_to.Given as goal

abbrev pub invariant-loop-self : goal.invariant-loop-self
invariant-loop-self l = record {
  clauses : l.self.clauses ≡ l.fn.self.clauses;
  low : l.fn.self.vars ≤ l.self.vars;
  high : l.self.vars ≤ l.vars;
}

abbrev pub decreases-loop-self : goal.decreases-loop-self
decreases-loop-self l = l.vars - l.self.vars
