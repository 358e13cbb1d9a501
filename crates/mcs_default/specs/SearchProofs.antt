-- That a theory can be asked about by what was found has at most one proof.
use Rattle.std.specs.Prelude.{List}
use Rattle.std.specs.List.{AllByRecursion-prop}
use Rattle.std.specs.Coded.{Π_prop, le_prop, Coded-set, coded_ℕ}
use Rattle.mcs_base.specs.OneProof.{IsTrue-prop}
use Rattle.mcs_system.specs.Plain.{Name, Formula, Falsity, Default, Item}
use Rattle.mcs_system.specs.Logic.{Entails, holds, holds_all, true_names}
use Rattle.mcs_evidence.specs.Defaults.{facts_of, defaults_of, generated}
use Rattle.mcs_default.specs.Assignments.{with_part}
use Rattle.mcs_default.specs.Searches.{IsLower, IsUpper, IsConflict, AreRightFindings, CanBeAsked}
use Rattle.mcs_default.specs.declared.models.Part.TheVariants as parts
use Rattle.mcs_default.specs.declared.findings.Lower as lower
use Rattle.mcs_default.specs.declared.findings.Upper as upper
use Rattle.mcs_default.specs.declared.findings.Findings as findings

Entails-prop : (fs : List Formula) (p : Formula) → IsProp (Entails fs p)
Entails-prop fs p = Π_prop (λ a. Π_prop (λ h. IsTrue-prop (holds a p)))

never-prop : {A : Type 0} → IsProp (¬ A)
never-prop = Π_prop (λ a x y. absurd x)

IsLower-prop : (items : List Item) (e : lower.Lower) → IsProp (IsLower items e)
IsLower-prop items e x y = λ i. record {
  supported = Π_prop (λ k. Π_prop (λ h. Π_prop (λ d. Π_prop (λ at. Entails-prop (generated items e.set) d.pre)))) x.supported y.supported i;
  blocked = Π_prop (λ k. Π_prop (λ h. Π_prop (λ d. Π_prop (λ at. never-prop)))) x.blocked y.blocked i;
}

IsUpper-prop : (names : List Name) (items : List Item) (e : upper.Upper) → IsProp (IsUpper names items e)
IsUpper-prop names items e x y = λ i. record {
  model = IsTrue-prop (holds_all (true_names 0 names e.values) (facts_of items)) x.model y.model i;
  set = Coded-set coded_ℕ e.set (with_part (true_names 0 names e.values) parts.Consequent (defaults_of items)) x.set y.set i;
  supported = Coded-set coded_ℕ e.supported (with_part (true_names 0 names e.values) parts.Prerequisite (defaults_of items)) x.supported y.supported i;
  allowed = Coded-set coded_ℕ e.allowed (with_part (true_names 0 names e.values) parts.Justifications (defaults_of items)) x.allowed y.allowed i;
}

AreRightFindings-prop : (names : List Name) (items : List Item) (f : findings.Findings) → IsProp (AreRightFindings names items f)
AreRightFindings-prop names items f x y = λ i. (
  AllByRecursion-prop (IsLower items) (IsLower-prop items) f.lower.items x.0 y.0 i,
  AllByRecursion-prop (IsUpper names items) (IsUpper-prop names items) f.upper.items x.1 y.1 i,
  AllByRecursion-prop (IsConflict items) (λ set. Entails-prop (generated items set) Falsity) f.conflicts.items x.2 y.2 i,
)

pub CanBeAsked-prop : (names : List Name) (ds : List Default) (f : findings.Findings) → IsProp (CanBeAsked names ds f)
CanBeAsked-prop names ds f x y = λ i. record {
  room = le_prop x.room y.room i;
  right = Π_prop (λ items. Π_prop (λ parts. AreRightFindings-prop names items f)) x.right y.right i;
}
