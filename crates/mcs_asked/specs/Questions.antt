-- What is asked, in plain data.
use Rattle.std.specs.Prelude.{◌++◌, List, map}
use Rattle.mcs_system.specs.Plain.{Name, Formula, Atom, Default, Item, Fact, ProgramRule}
use Rattle.mcs_system.specs.Seen.{formula_of, default_of, item_of, rule_of}
use Rattle.mcs_asked.specs.declared.asked.Asked as asked
use Rattle.mcs_asked.specs.declared.theory.AskedTheory as theory
use Rattle.mcs_asked.specs.declared.program.AskedProgram as program

abbrev pub asked_beliefs : asked.Asked → List Formula
asked_beliefs a = map (λ b. formula_of b.now) a.beliefs.now

-- ---- of a default theory
abbrev pub theory_names : theory.AskedTheory → List Name
theory_names t = t.asked.now.atoms.now

abbrev pub theory_beliefs : theory.AskedTheory → List Formula
theory_beliefs t = map (λ b. formula_of b.now) t.asked.now.beliefs.now

abbrev pub theory_defaults : theory.AskedTheory → List Default
theory_defaults t = map (λ d. default_of d.now) t.defaults.now

-- its items, with the heads as facts
abbrev pub theory_items : theory.AskedTheory → List Item
theory_items t = map item_of t.items.now ++ map Fact (map (λ f. formula_of f.now) t.heads.now)

-- ---- of a program
abbrev pub program_rules : program.AskedProgram → List ProgramRule
program_rules p = map rule_of p.rules.now

abbrev pub program_beliefs : program.AskedProgram → List Formula
program_beliefs p = map Atom (map (λ b. b.now) p.beliefs.now)
