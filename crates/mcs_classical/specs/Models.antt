-- Models that are found: places of atoms that are true where formulas hold.
use Rattle.std.specs.Prelude.{ℕ, IsTrue, List, Option, Some, None}
use Rattle.mcs_system.specs.Plain.{Name, Formula}
use Rattle.mcs_system.specs.Logic.{holds_all, Entails}
use Rattle.mcs_trace.specs.Traces.{IsAcceptedTrace, inferences_of}
use Rattle.mcs_cnf.specs.ClauseLists.{clause_list}
use Rattle.mcs_cnf.specs.Entailments.{IsModelAt, IsRefuted}
use Rattle.mcs_classical.specs.declared.satisfying.Satisfied.{Satisfied}
use Rattle.mcs_classical.specs.declared.satisfying.Satisfied.TheVariants.{Model, Refuted}

-- a model of the formulas, or an accepted trace that refutes them, so that they have none
abbrev pub IsSatisfiedAnswer : List Name → List Formula → Satisfied → Type 0
IsSatisfiedAnswer names fs (Model places) = IsModelAt names fs places
IsSatisfiedAnswer names fs (Refuted trace) = IsAcceptedTrace (clause_list names fs).clauses (inferences_of trace) × ((a : List Name) → ¬ IsTrue (holds_all a fs))

-- the places of the atoms that are true where the formulas hold and the goal does not; none where the goal follows
abbrev pub IsCounterexample : List Name → List Formula → Formula → Option ℕ → Type 0
IsCounterexample names fs g None = Entails fs g
IsCounterexample names fs g (Some places) = IsRefuted names fs g places
