-- When a certificate of a classical context is accepted. Its beliefs are numbered from 0.
use Rattle.std.specs.Prelude.{◌≡◌, ℕ, true, IsTrue, List, [], ◌∷◌, ◌↔◌, map, Some, slice_get}
use Rattle.mcs_sets.specs.Sets.{has}
use Rattle.mcs_system.specs.Plain.{Name, Formula}
use Rattle.mcs_trace.specs.declared.certificate.ClassicalCert as code
use Rattle.mcs_cnf.specs.Entailments.{Entailment, entailment_of, says_yes, IsAcceptedEntailment}

-- one entailment for each belief, in order, each accepted
abbrev pub AreAcceptedEntailments : List Name → List Formula → List Formula → List Entailment → Type 0
AreAcceptedEntailments names fs [] [] = Unit {0}
AreAcceptedEntailments names fs (g ∷ gs) (e ∷ es) = IsAcceptedEntailment names fs g e × AreAcceptedEntailments names fs gs es
AreAcceptedEntailments names fs [] (e ∷ es) = ⊥
AreAcceptedEntailments names fs (g ∷ gs) [] = ⊥

-- the belief of this number has `yes`
abbrev pub HasYes : List Entailment → ℕ → Type 0
HasYes es b = slice_get (map says_yes es) b ≡ Some true

-- of the beliefs exactly those at these places follow from the formulas, which is shown belief by belief
pub record AreShown (names : List Name) (fs beliefs : List Formula) (places : ℕ) (es : List Entailment) : Type 0 where
  pub entailments : AreAcceptedEntailments names fs beliefs es
  pub exactly : (b : ℕ) → IsTrue (has places b) ↔ HasYes es b

-- that is shown of the one view that is put out
pub record IsAcceptedClassical (names : List Name) (fs beliefs : List Formula) (outputs : List ℕ) (es : List Entailment) : Type 0 where
  pub view : ℕ
  pub only : outputs ≡ view ∷ []
  pub shown : AreShown names fs beliefs view es

abbrev pub certificate_of : code.ClassicalCert → List Entailment
certificate_of c = map entailment_of c.entails.items
