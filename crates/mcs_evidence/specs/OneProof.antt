-- That items and rules are over names has at most one proof, as a fact that a struct keeps must.
use Rattle.std.specs.Prelude.{◌≡◌, IsTrue, List}
use Rattle.std.specs.List.{AllByRecursion-prop}
use Rattle.std.specs.Coded.{Coded-set, coded_list}
use Rattle.mcs_base.specs.OneProof.{IsTrue-prop}
use Rattle.mcs_system.specs.ItemCodes.{coded_default}
use Rattle.mcs_system.specs.Plain.{Name, Default, Item, Fact, Rule, ProgramRule}
use Rattle.mcs_system.specs.Logic.{is_in}
use Rattle.mcs_cnf.specs.OneProof.{IsOver-prop, AreOver-prop}
use Rattle.mcs_evidence.specs.Defaults.{IsOverItem, AreOverItems}
use Rattle.mcs_evidence.specs.Programs.{IsOverRule, AreOverRules}
use Rattle.mcs_evidence.specs.Pushing.{AreNamesOf}
use Rattle.mcs_evidence.specs.Theories.{IsOverDefault, AreOverDefaults}

-- ---- default theories
IsOverDefault-prop : (names : List Name) (d : Default) → IsProp (IsOverDefault names d)
IsOverDefault-prop names d x y = λ i. (IsOver-prop names d.pre x.0 y.0 i, AreOver-prop names d.justs x.1 y.1 i, IsOver-prop names d.conclusion x.2 y.2 i)

pub IsOverItem-prop : (names : List Name) (item : Item) → IsProp (IsOverItem names item)
IsOverItem-prop names (Fact f) = IsOver-prop names f
IsOverItem-prop names (Rule d) = IsOverDefault-prop names d

pub AreOverItems-prop : (names : List Name) (items : List Item) → IsProp (AreOverItems names items)
AreOverItems-prop names items = AllByRecursion-prop (IsOverItem names) (IsOverItem-prop names) items

pub AreOverDefaults-prop : (names : List Name) (ds : List Default) → IsProp (AreOverDefaults names ds)
AreOverDefaults-prop names ds = AllByRecursion-prop (IsOverDefault names) (IsOverDefault-prop names) ds

pub SameDefaults-prop : (ds es : List Default) → IsProp (ds ≡ es)
SameDefaults-prop ds es = Coded-set (coded_list coded_default) ds es

-- ---- programs
pub AreNamesOf-prop : (names ns : List Name) → IsProp (AreNamesOf names ns)
AreNamesOf-prop names ns = AllByRecursion-prop (λ (n : Name). IsTrue (is_in n names)) (λ n. IsTrue-prop (is_in n names)) ns

pub IsOverRule-prop : (names : List Name) (r : ProgramRule) → IsProp (IsOverRule names r)
IsOverRule-prop names r x y = λ i. (AreNamesOf-prop names r.head x.0 y.0 i, AreNamesOf-prop names r.pos x.1 y.1 i, AreNamesOf-prop names r.neg x.2 y.2 i)

pub AreOverRules-prop : (names : List Name) (rules : List ProgramRule) → IsProp (AreOverRules names rules)
AreOverRules-prop names rules = AllByRecursion-prop (IsOverRule names) (IsOverRule-prop names) rules
