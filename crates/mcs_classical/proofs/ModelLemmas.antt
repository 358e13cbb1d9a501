-- A model that was found before, tried on a goal.
use Rattle.std.proofs.Common.{◌≡◌, ℕ, false, List, Option, Some, IfSome, sym, ap, ◌∙◌, subst}
use Rattle.mcs_system.specs.Plain.{Name, Formula}
use Rattle.mcs_system.specs.Logic.{holds, true_names}
use Rattle.mcs_cnf.specs.Entailments.{IsModelAt, IsRefuted}

pub refuted_beside : (names : List Name) (fs : List Formula) (g : Formula) (model : Option ℕ) (places number : ℕ) → model ≡ Some places → holds (true_names 0 names places) g ≡ false → number ≡ places → IfSome model (IsModelAt names fs)
    → IsRefuted names fs g number
refuted_beside names fs g model places number is out same known = record {
  model = subst (IsModelAt names fs) (sym same) (subst (λ (m : Option ℕ). IfSome m (IsModelAt names fs)) is known);
  goal = ap (λ (s : ℕ). holds (true_names 0 names s) g) same ∙ out;
}
