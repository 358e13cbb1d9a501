-- That formulas are over names has at most one proof, as a fact that a struct keeps must.
use Rattle.std.specs.Prelude.{List}
use Rattle.std.specs.List.{AllByRecursion-prop}
use Rattle.std.specs.Coded.{×_prop, Unit-prop}
use Rattle.mcs_base.specs.OneProof.{IsTrue-prop}
use Rattle.mcs_system.specs.Plain.{Name, Formula, Truth, Falsity, Atom, Not, Joined}
use Rattle.mcs_system.specs.Logic.{is_in}
use Rattle.mcs_cnf.specs.ClauseLists.{IsOver, AreOver}

pub IsOver-prop : (names : List Name) (f : Formula) → IsProp (IsOver names f)
IsOver-prop names Truth = Unit-prop
IsOver-prop names Falsity = Unit-prop
IsOver-prop names (Atom n) = IsTrue-prop (is_in n names)
IsOver-prop names (Not f) = IsOver-prop names f
IsOver-prop names (Joined c f g) = ×_prop (IsOver-prop names f) (IsOver-prop names g)

pub AreOver-prop : (names : List Name) (fs : List Formula) → IsProp (AreOver names fs)
AreOver-prop names fs = AllByRecursion-prop (IsOver names) (IsOver-prop names) fs
