-- That a knowledge base is over names, and that formulas are of its kind, has at most one proof.
use Rattle.std.specs.Prelude.{IsTrue, List}
use Rattle.std.specs.List.{AllByRecursion-prop}
use Rattle.std.specs.Coded.{Unit-prop}
use Rattle.mcs_base.specs.OneProof.{IsTrue-prop}
use Rattle.mcs_system.specs.Faults.{is_atom}
use Rattle.mcs_system.specs.Plain.{Name, Formula, ProgramKind, Kb, OfKind}
use Rattle.mcs_asking.specs.Kinds.{IsOverIn, IsOverIn-prop, IsOverKb, AreOfKind}

pub IsOverKb-prop : (names : List Name) (kb : Kb) → IsProp (IsOverKb names kb)
IsOverKb-prop names (OfKind k items) = AllByRecursion-prop (IsOverIn k names) (IsOverIn-prop k names) items

pub AreOfKind-prop : (kb : Kb) (fs : List Formula) → IsProp (AreOfKind kb fs)
AreOfKind-prop (OfKind ProgramKind rules) fs = AllByRecursion-prop (λ (f : Formula). IsTrue (is_atom f)) (λ f. IsTrue-prop (is_atom f)) fs
AreOfKind-prop (OfKind k items) fs = Unit-prop
