use Rattle.std.proofs.Common.{◌++◌, ◌↔◌, drop}
use Rattle.mcs_trace.specs.Clauses.{IsClause}
use Rattle.mcs_trace.specs.Traces.{ResolvesTo, clauses_of}
use Rattle.mcs_trace.proofs.checker.resolves_to.Given as goal

abbrev pub invariant-loop-number : goal.invariant-loop-number
invariant-loop-number l =
    IsClause l.current.items × (ResolvesTo (l.clauses ++ clauses_of l.steps) l.fn.current.items l.numbers l.last ↔ ResolvesTo (l.clauses ++ clauses_of l.steps) l.current.items (drop l.number-index l.numbers) l.last)
