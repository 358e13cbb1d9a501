-- What is told of the certificate of a program, part by part.
use Rattle.std.specs.Prelude.{ℕ, ◌≤◌, List, length, map, Option, Some, None, MatchOption, Vec}
use Rattle.std.specs.List.{AllByRecursion}
use Rattle.std.specs.declared.alloc.Global.{Global}
use Rattle.mcs_sets.specs.Orders.{StateBefore}
use Rattle.mcs_base.specs.Listings.{IsAscending}
use Rattle.mcs_system.specs.Plain.{Name, Formula, Atom, ProgramRule}
use Rattle.mcs_system.specs.Seen.{rule_of}
use Rattle.mcs_trace.specs.Clauses.{ClauseList}
use Rattle.mcs_trace.specs.Traces.{Inference, IsAcceptedTrace}
use Rattle.mcs_evidence.specs.Programs.{AreOverRules, IsInRange, IsRefutation, rest_formulas}
use Rattle.mcs_evidence.specs.Pushing.{AreNamesOf}
use Rattle.mcs_asked.specs.declared.program.AskedProgram.{AskedProgram}
use Rattle.mcs_asked.specs.Questions.{program_rules, program_beliefs}

-- ---- what is told
-- this is the view that is shown, if one is
abbrev pub IsViewOf : {A : Type 0} → (ℕ → A → Type 0) → Option ℕ → A → Type 0
IsViewOf Shown told value = MatchOption told ((view : ℕ) → ¬ Shown view value) (λ view. Shown view value)

-- there are clauses, and the trace refutes them
abbrev pub Refutes : Option ClauseList → List Inference → Type 0
Refutes None steps = ⊥
Refutes (Some known) steps = IsAcceptedTrace known.clauses steps

-- all that is wanted of the views and the smaller sets without a trace
pub record MayBeShown (names : List Name) (smaller views : List ℕ) : Type 0 where
  pub ascending : IsAscending StateBefore views
  pub in_range : AllByRecursion (IsInRange names) smaller

-- there are views, and with them, the smaller sets and this last trace a certificate is accepted
abbrev pub Completes : AskedProgram → List ℕ → Option (Vec ℕ Global) → List Inference → Type 0
Completes p smaller None rest = ⊥
Completes p smaller (Some views) rest = MayBeShown p.atoms.now smaller views.items × IsRefutation p.atoms.now (rest_formulas p.atoms.now (program_rules p) (program_beliefs p) smaller views.items) rest
