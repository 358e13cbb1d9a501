-- Formulas that are shown not to follow, and the prerequisites of a set, one after the other.
use Rattle.std.proofs.Common.{◌≡◌, ℕ, ◌+◌, ◌<◌, true, false, List, [], ◌∷◌, ◌++◌, map, length, get_or, take, sym, ap, ◌∙◌, subst}
use Rattle.std.proofs.lemmas.List.{map_push}
use Rattle.mcs_sets.specs.Sets.{has}
use Rattle.mcs_base.proofs.Lists.{zip_push}
use Rattle.mcs_system.specs.Plain.{Name, Formula, Default}
use Rattle.mcs_trace.specs.declared.certificate.Entail.{Entail}
use Rattle.mcs_cnf.specs.Entailments.{Entailment, entailment_of, says_yes, IsAcceptedEntailment}
use Rattle.mcs_evidence.specs.Defaults.{defaults_at, IsDenied, AreDenied}
use Rattle.mcs_evidence.proofs.Picked.{picked_in, picked_out}
use Rattle.mcs_grounding.specs.Told.{prerequisites}

pub denied_same : (names : List Name) (fs gs hs : List Formula) (es es' : List Entailment) → gs ≡ hs → es ≡ es' → AreDenied names fs gs es → AreDenied names fs hs es'
denied_same names fs gs hs es es' same same' denied = subst (λ (xs : List Formula). AreDenied names fs xs es') same (subst (AreDenied names fs gs) same' denied)

pub denied_push : (names : List Name) (fs gs hs : List Formula) (g : Formula) (es es' : List Entail) (e : Entail) → hs ≡ gs ++ g ∷ [] → es' ≡ es ++ e ∷ []
    → IsAcceptedEntailment names fs g (entailment_of e) → says_yes (entailment_of e) ≡ false → AreDenied names fs gs (map entailment_of es) → AreDenied names fs hs (map entailment_of es')
denied_push names fs gs hs g es es' e more pushed accepted said before =
    denied_same names fs (gs ++ g ∷ []) hs (map entailment_of es ++ entailment_of e ∷ []) (map entailment_of es') (sym more) (sym (ap (map entailment_of) pushed ∙ map_push entailment_of es e))
    (zip_push (IsDenied names fs) gs (map entailment_of es) g (entailment_of e) before (accepted, said))

-- ---- prerequisites
module _ {A : Type 0} (view : A → Default) where
  pub next_more : (xs : List A) (set i : ℕ) (x : A) → i < length xs → x ≡ get_or xs i x → has set i ≡ true → prerequisites (map view (take (i + 1) xs)) set ≡ prerequisites (map view (take i xs)) set ++ (view x).pre ∷ []
  next_more xs set i x less is member = ap (map (λ (d : Default). d.pre)) (picked_in view xs set i x less is member) ∙ map_push (λ (d : Default). d.pre) (defaults_at 0 (map view (take i xs)) set) (view x)

  pub next_same : (xs : List A) (set i : ℕ) (x : A) → i < length xs → x ≡ get_or xs i x → has set i ≡ false → prerequisites (map view (take (i + 1) xs)) set ≡ prerequisites (map view (take i xs)) set
  next_same xs set i x less is member = ap (map (λ (d : Default). d.pre)) (picked_out view xs set i x less is member)
