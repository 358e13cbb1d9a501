-- Clause lists to which those of formulas are added.
use Rattle.std.specs.Prelude.{◌≡◌, List}
use Rattle.mcs_system.specs.Plain.{Name, Formula}
use Rattle.mcs_trace.specs.Clauses.{ClauseList}
use Rattle.mcs_cnf.specs.ClauseLists.{with_formulas}

-- the clauses of some formulas are added
abbrev pub HasMoreFormulas : List Name → ClauseList → ClauseList → Type 0
HasMoreFormulas names old new = (fs : List Formula) × (new ≡ with_formulas names old fs)
