-- The fault that is told of a token of what is read by itself.
use Rattle.std.specs.Prelude.{◌≤◌, IsTrue, List, Option, Some, None}
use Rattle.mcs_system.specs.Plain.{Name}
use Rattle.mcs_grammar.specs.Entries.{Entry}
use Rattle.mcs_grammar.specs.Faults.{TextFault, rank, Has}
use Rattle.mcs_grammar.specs.Alone.{is_told, contexts_said}
use Rattle.mcs_faults.specs.declared.fault.Fault as code_fault
use Rattle.mcs_faults.specs.Watching.{fault_for}

-- the lowest of the faults of the entry that are told, or that it has none
abbrev pub IsLowestTold : Option code_fault.Fault → List Name → Entry → Type 0
IsLowestTold None names m = (f : TextFault) → IsTrue (is_told f) → ¬ Has f (contexts_said names) m
IsLowestTold (Some g) names m = IsTrue (is_told (fault_for g)) × Has (fault_for g) (contexts_said names) m × ((f : TextFault) → IsTrue (is_told f) → Has f (contexts_said names) m → rank (fault_for g) ≤ rank f)
