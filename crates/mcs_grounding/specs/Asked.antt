-- What is asked of a default theory.
use Rattle.std.specs.Prelude.{List, map}
use Rattle.mcs_system.specs.Plain.{Name, Formula, Default, Item}
use Rattle.mcs_system.specs.Seen.{formula_of, default_of}
use Rattle.mcs_trace.specs.Clauses.{ClauseList}
use Rattle.mcs_grounding.specs.Theories.{AreParts}
use Rattle.mcs_grounding.specs.declared.asked.Theory as theory

abbrev pub theory_names : theory.Theory → List Name
theory_names t = t.asked.now.atoms.now

abbrev pub theory_beliefs : theory.Theory → List Formula
theory_beliefs t = map (λ b. formula_of b.now) t.asked.now.beliefs.now

abbrev pub theory_defaults : theory.Theory → List Default
theory_defaults t = map (λ d. default_of d.now) t.defaults.now

-- the items have these defaults, and these are the clauses of their facts
abbrev pub AreItemsOf : theory.Theory → ClauseList → List Item → Type 0
AreItemsOf t known items = AreParts (theory_names t) items (theory_defaults t) known
