-- What is said of the items of a knowledge base: their atoms, whether they are too large, and that each atom is a name.
use Rattle.std.specs.Prelude.{◌+◌, Bool, ◌||◌, nat_lt, IsTrue, List, ◌++◌, length}
use Rattle.std.specs.List.{list_any, flat_map, AllByRecursion}
use Rattle.mcs_base.specs.Words.{is_name}
use Rattle.mcs_system.specs.Trees.{AllLeaves}
use Rattle.mcs_system.specs.Plain.{Name, Formula, Default, ProgramRule, Item, Fact, Rule}
use Rattle.mcs_system.specs.Logic.{atoms}
use Rattle.mcs_system.specs.Seen.{formula_size}
use Rattle.mcs_system.specs.Limits.{most}
use Rattle.mcs_system.specs.declared.limit.Limit.TheVariants.{FormulaSize}

-- ---- atoms
-- of a default: prerequisite, justifications, conclusion
abbrev pub default_atoms : Default → List Name
default_atoms d = atoms d.pre ++ (flat_map atoms d.justs ++ atoms d.conclusion)

abbrev pub item_atoms : Item → List Name
item_atoms (Fact f) = atoms f
item_atoms (Rule d) = default_atoms d

-- of a rule: head, positive body, negative body
abbrev pub rule_atoms : ProgramRule → List Name
rule_atoms r = r.head ++ (r.pos ++ r.neg)

-- ---- size
abbrev pub is_large : Formula → Bool
is_large f = nat_lt (most FormulaSize) (formula_size f)

abbrev pub has_large_formula : Item → Bool
has_large_formula (Fact f) = is_large f
has_large_formula (Rule d) = is_large d.pre || (list_any is_large d.justs || is_large d.conclusion)

-- of a program rule the names count
abbrev pub is_large_rule : ProgramRule → Bool
is_large_rule r = nat_lt (most FormulaSize) (length r.head + (length r.pos + length r.neg))

-- ---- names
abbrev pub IsName : Name → Type 0
IsName n = IsTrue (is_name n)

abbrev pub AreNames : List Name → Type 0
AreNames ns = AllByRecursion IsName ns

abbrev pub IsNamedFormula : Formula → Type 0
IsNamedFormula f = AllLeaves IsName f

pub record IsNamedDefault (d : Default) : Type 0 where
  pub pre : IsNamedFormula d.pre
  pub justs : AllByRecursion IsNamedFormula d.justs
  pub conclusion : IsNamedFormula d.conclusion

abbrev pub IsNamedItem : Item → Type 0
IsNamedItem (Fact f) = IsNamedFormula f
IsNamedItem (Rule d) = IsNamedDefault d

pub record IsNamedRule (r : ProgramRule) : Type 0 where
  pub head : AreNames r.head
  pub pos : AreNames r.pos
  pub neg : AreNames r.neg
