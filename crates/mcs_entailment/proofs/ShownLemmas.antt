-- The places of entailments that say `yes`, and places in range.
use Rattle.std.proofs.Common.{◌≡◌, ℕ, ◌<◌, ◌^◌, Bool, true, false, not, ltb, IsTrue, List, map, length, get_or, arith, refl, sym, ap, subst, ◌∙◌, ◌↔◌, Some, slice_get}
use Rattle.std.proofs.lemmas.List.{length-map}
use Rattle.std.proofs.lemmas.Option.{slice_get_within}
use Rattle.mcs_base.proofs.Lists.{slice_get-map_some}
use Rattle.std.proofs.lemmas.Bool.Decides.{nat_tests}
use Rattle.mcs_sets.proofs.SetLemmas.{members_below}
use Rattle.mcs_sets.proofs.Lattice.{below_from_members}
use Rattle.mcs_system.specs.Logic.{holds, holds_all, true_names}
use Rattle.mcs_evidence.specs.Programs.{IsInRange}
use Rattle.mcs_base.proofs.Mapped.{slice_get-map_read}
use Rattle.mcs_system.specs.Plain.{Name, Formula}
use Rattle.mcs_trace.specs.declared.certificate.Entail.{Entail}
use Rattle.mcs_cnf.specs.Classical.{HasYes}
use Rattle.mcs_cnf.specs.Entailments.{Entailment, Yes, No, entailment_of, says_yes, IsAcceptedEntailment, IsModelAt, IsRefuted}
use Rattle.mcs_evidence.specs.Defaults.{IsEntailmentShown, IsDenied}

said_at : (es : List Entail) (i : ℕ) (e : Entail) (b : Bool) → i < length es → e ≡ get_or es i e → says_yes (entailment_of e) ≡ b → slice_get (map says_yes (map entailment_of es)) i ≡ Some b
said_at es i e b less is said = slice_get-map_some says_yes (map entailment_of es) i (entailment_of e) (slice_get-map_read entailment_of es i e less is) ∙ some said
  where
    some : says_yes (entailment_of e) ≡ b → Some (says_yes (entailment_of e)) ≡ Some b
    some h = cc

pub yes_at : (es : List Entail) (i : ℕ) (e : Entail) → i < length es → e ≡ get_or es i e → says_yes (entailment_of e) ≡ true → HasYes (map entailment_of es) i
yes_at es i e less is said = said_at es i e true less is said

pub not_at : (es : List Entail) (i : ℕ) (e : Entail) → i < length es → e ≡ get_or es i e → says_yes (entailment_of e) ≡ false → ¬ HasYes (map entailment_of es) i
not_at es i e less is said h = let impossible : Some false ≡ Some true = sym (said_at es i e false less is said) ∙ h in absurd (cc)

pub yes_below : (es : List Entail) (b : ℕ) → HasYes (map entailment_of es) b → b < length es
yes_below es b h = let inside = slice_get_within (map says_yes (map entailment_of es)) b true h in omega (arith, length-map (map entailment_of es) says_yes, length-map es entailment_of)

-- ---- places in range
pub range_test : (names : List Name) (s : ℕ) → IsTrue (ltb s (2 ^ length names)) ↔ IsInRange names s
range_test names s = (
  λ h k member. members_below s (length names) k (let test : ltb s (2 ^ length names) ≡ true = h in grind (arith, nat_tests)) member,
  λ low. (let less : s < 2 ^ length names = below_from_members (length names) s low in grind (arith, nat_tests)),
)

-- ---- models that are known
pub model_iff : (names : List Name) (fs : List Formula) (places values : ℕ) (b : Bool) → values ≡ places → b ≡ holds_all (true_names 0 names values) fs → IsInRange names places → IsTrue b ↔ IsModelAt names fs places
model_iff names fs places values b is told range = (
  λ h. record { in_range = range; formulas = subst (λ (v : ℕ). holds_all (true_names 0 names v) fs ≡ true) is (sym told ∙ h) },
  λ model. told ∙ ap (λ (v : ℕ). holds_all (true_names 0 names v) fs) is ∙ model.formulas,
)

pub refuted_iff : (names : List Name) (fs : List Formula) (g : Formula) (places values : ℕ) (b : Bool) → values ≡ places → b ≡ holds (true_names 0 names values) g → IsModelAt names fs places → IsTrue (not b) ↔ IsRefuted names fs g places
refuted_iff names fs g places values b is told model = (
  λ h. record { model = model; goal = subst (λ (v : ℕ). holds (true_names 0 names v) g ≡ false) is (sym told ∙ at b h) },
  λ r. ap not (told ∙ ap (λ (v : ℕ). holds (true_names 0 names v) g) is ∙ r.goal),
)
  where
    at : (b : Bool) → not b ≡ true → b ≡ false
    at true h = sym h
    at false h = refl

-- what is accepted shows that the goal follows or that it does not
pub unless_told : (names : List Name) (fs : List Formula) (g : Formula) (e : Entailment) → ¬ IsDenied names fs g e → ¬ IsEntailmentShown names fs g e → ¬ IsAcceptedEntailment names fs g e
unless_told names fs g (Yes steps) not_denied not_shown h = not_shown (h, refl)
unless_told names fs g (No places) not_denied not_shown h = not_denied (h, refl)
