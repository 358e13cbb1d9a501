-- The plain data that the code's values stand for.
use Rattle.std.specs.Prelude.{ℕ, List, map}
use Rattle.mcs_system.specs.Trees.{tree_size}
use Rattle.mcs_system.specs.Plain as plain
use Rattle.mcs_system.specs.declared.formula.Formula as code
use Rattle.mcs_system.specs.declared.knowledge.Default as code_default
use Rattle.mcs_system.specs.declared.knowledge.ProgRule as code_rule
use Rattle.mcs_system.specs.declared.knowledge.TheoryItem as code_item
use Rattle.mcs_system.specs.declared.knowledge.TheoryItem.TheVariants as item_variants
use Rattle.mcs_system.specs.declared.knowledge.Kb as code_kb
use Rattle.mcs_system.specs.declared.knowledge.Kb.TheVariants as kb_variants
use Rattle.mcs_system.specs.declared.knowledge.Context as code_context
use Rattle.mcs_system.specs.declared.bridge.Read as code_read
use Rattle.mcs_system.specs.declared.bridge.Bridge as code_bridge

abbrev pub formula_of : code.Formula → plain.Formula
formula_of code.True = plain.Truth
formula_of code.False = plain.Falsity
formula_of (code.Atom name) = plain.Atom name
formula_of (code.Not' p f) = plain.Not (formula_of f)
formula_of (code.And' p f q g) = plain.And (formula_of f) (formula_of g)
formula_of (code.Or' p f q g) = plain.Or (formula_of f) (formula_of g)
formula_of (code.Implies' p f q g) = plain.Implies (formula_of f) (formula_of g)
formula_of (code.Iff' p f q g) = plain.Iff (formula_of f) (formula_of g)

-- constants, atoms and connectives count one each
abbrev pub formula_size : plain.Formula → ℕ
formula_size f = tree_size (λ _. 1) f

abbrev pub default_of : code_default.Default → plain.Default
default_of d = record { pre = formula_of d.pre; justs = map formula_of d.justs.items; conclusion = formula_of d.conclusion }

abbrev pub rule_of : code_rule.ProgRule → plain.ProgramRule
rule_of r = record { head = r.head.items; pos = r.pos.items; neg = r.neg.items }

abbrev pub item_of : code_item.TheoryItem → plain.Item
item_of (item_variants.Fact f) = plain.Fact (formula_of f)
item_of (item_variants.Rule d) = plain.Rule (default_of d)

abbrev pub kb_of : code_kb.Kb → plain.Kb
kb_of (kb_variants.Classical fs) = plain.Classical (map formula_of fs.items)
kb_of (kb_variants.DefaultTheory is) = plain.DefaultTheory (map item_of is.items)
kb_of (kb_variants.Program rs) = plain.Program (map rule_of rs.items)

abbrev pub read_of : code_read.Read → plain.Read
read_of r = record { context = r.context; belief = formula_of r.belief }

abbrev pub context_of : code_context.Context → plain.Context
context_of c = record { name = c.name; kb = kb_of c.kb }

abbrev pub bridge_of : code_bridge.Bridge → plain.Bridge
bridge_of b = record { name = b.name; target = b.target; head = formula_of b.head; pos = map read_of b.pos.items; neg = map read_of b.neg.items; keep = b.keep; closed = b.closed; weight = b.weight }

-- the system that these contexts and rules would make
abbrev pub system_of : List code_context.Context → List code_bridge.Bridge → plain.System
system_of contexts bridges = record { contexts = map context_of contexts; bridges = map bridge_of bridges }
