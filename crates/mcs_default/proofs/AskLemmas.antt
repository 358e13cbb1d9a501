-- What is told of defaults, question by question.
use Rattle.std.proofs.Common.{◌≡◌, ℕ, ◌+◌, ◌<◌, true, false, List, [], ◌∷◌, ◌++◌, map, length, get_or, take, refl, sym, ap, ◌∙◌, subst, Some, slice_get}
use Rattle.std.proofs.lemmas.List.{map_more, map_push, append-nil}
use Rattle.std.specs.List.{AllZip}
use Rattle.mcs_sets.specs.Sets.{has, members_from}
use Rattle.mcs_sets.proofs.SetLemmas.{members-width, such_that-lt}
use Rattle.mcs_sets.proofs.Lattice.{minus-lt}
use Rattle.mcs_base.proofs.Lists.{zip_push}
use Rattle.mcs_base.proofs.Mapped.{slice_get-map_read}
use Rattle.mcs_base.proofs.Zipped.{zip_append}
use Rattle.mcs_base.proofs.SetParts.{members_from-more}
use Rattle.mcs_system.specs.Plain.{Name, Formula, Not, Default}
use Rattle.mcs_system.specs.Seen.{formula_of}
use Rattle.mcs_system.specs.declared.formula.Formula as code
use Rattle.mcs_trace.specs.declared.certificate.Entail.{Entail}
use Rattle.mcs_trace.specs.declared.certificate.Outside.{Outside}
use Rattle.mcs_cnf.specs.Entailments.{Entailment, entailment_of, says_yes, IsAcceptedEntailment}
use Rattle.mcs_evidence.specs.Defaults.{Absence, absence_of, defaults_at, negated_justs, IsDenied, AreDenied}
use Rattle.mcs_evidence.specs.Theories.{all_of}
use Rattle.mcs_evidence.proofs.TheoryLemmas.{others, has-others}
use Rattle.mcs_evidence.proofs.Picked.{picked_in}
use Rattle.mcs_default.specs.declared.asking.Justs as justs
use Rattle.mcs_default.specs.Told.{IsBlockedBy, IsToldOfJusts, IsAbsentOf, IsAbsentAt, AreAbsentOutside}
use Rattle.mcs_grounding.proofs.Numbers.{formula_at}
use Rattle.mcs_grounding.proofs.DeniedLemmas.{denied_same}
use Rattle.mcs_default.proofs.General.{negated_push}

-- ---- justifications
pub justs_more : (justs : List code.Formula) (i : ℕ) (f : code.Formula) → i < length justs → f ≡ get_or justs i f → map Not (map formula_of (take (i + 1) justs)) ≡ map Not (map formula_of (take i justs)) ++ Not (formula_of f) ∷ []
justs_more justs i f less is =
    ap (map Not) (map_more formula_of justs i f less ∙ ap (λ (g : code.Formula). map formula_of (take i justs) ++ formula_of g ∷ []) (sym is)) ∙ map_push Not (map formula_of (take i justs)) (formula_of f)

pub blocked_at : (names : List Name) (fs : List Formula) (justs : List code.Formula) (i n : ℕ) (f : code.Formula) (e : Entail) → i < length justs → f ≡ get_or justs i f → n ≡ i + 1
    → IsAcceptedEntailment names fs (Not (formula_of f)) (entailment_of e) → says_yes (entailment_of e) ≡ true → IsBlockedBy names fs (map formula_of justs) n (entailment_of e)
blocked_at names fs justs i n f e less is number accepted said =
    subst (λ (m : ℕ). IsBlockedBy names fs (map formula_of justs) m (entailment_of e)) (sym number) (formula_of f, formula_at (map formula_of justs) i ∙ slice_get-map_read formula_of justs i f less is, (accepted, said))

pub justs_told : (names : List Name) (fs : List Formula) (js js' : List code.Formula) (told : justs.Justs) → js ≡ js' → IsToldOfJusts names fs (map formula_of js) told → IsToldOfJusts names fs (map formula_of js') told
justs_told names fs js js' told same h = subst (λ (xs : List code.Formula). IsToldOfJusts names fs (map formula_of xs) told) same h

module _ {A : Type 0} (view : A → Default) where
  pub inside_more : (names : List Name) (fs : List Formula) (xs : List A) (set i : ℕ) (x : A) (es more es' : List Entail) → i < length xs → x ≡ get_or xs i x → has set i ≡ true → es' ≡ es ++ more
      → AreDenied names fs (map Not (view x).justs) (map entailment_of more) → AreDenied names fs (negated_justs (defaults_at 0 (map view (take i xs)) set)) (map entailment_of es)
      → AreDenied names fs (negated_justs (defaults_at 0 (map view (take (i + 1) xs)) set)) (map entailment_of es')
  inside_more names fs xs set i x es more es' less is member appended told before =
      denied_same names fs _ _ _ _ (sym (ap negated_justs (picked_in view xs set i x less is member) ∙ negated_push (defaults_at 0 (map view (take i xs)) set) (view x)))
      (sym (ap (map entailment_of) appended ∙ map_append es more))
      (zip_append (IsDenied names fs) _ _ _ _ before told)
    where
      map_append : (ys zs : List Entail) → map entailment_of (ys ++ zs) ≡ map entailment_of ys ++ map entailment_of zs
      map_append [] zs = refl
      map_append (y ∷ ys) zs = ap (λ (ws : List Entailment). entailment_of y ∷ ws) (map_append ys zs)

-- ---- those outside
pub absent_more : (names : List Name) (fs : List Formula) (ds : List Default) (set i : ℕ) (d : Default) (os os' : List Outside) (o : Outside) → i < length ds → slice_get ds i ≡ Some d → has set i ≡ false → os' ≡ os ++ o ∷ []
    → IsAbsentOf names fs d (i + 1) (absence_of o) → AllZip (IsAbsentAt names fs ds) (members_from 0 i (others ds set)) (map absence_of os) → AllZip (IsAbsentAt names fs ds) (members_from 0 (i + 1) (others ds set)) (map absence_of os')
absent_more names fs ds set i d os os' o less at out pushed told before =
    subst (λ (ks : List ℕ). AllZip (IsAbsentAt names fs ds) ks (map absence_of os')) (sym (members_from-more (others ds set) i true (has-others ds set i false less out)))
    (subst (λ (xs : List Absence). AllZip (IsAbsentAt names fs ds) (members_from 0 i (others ds set) ++ i ∷ []) xs) (sym (ap (map absence_of) pushed ∙ map_push absence_of os o))
    (zip_push (IsAbsentAt names fs ds) _ _ i (absence_of o) before (d, at, told)))

pub absent_same : (names : List Name) (fs : List Formula) (ds : List Default) (set i : ℕ) (xs : List Absence) → i < length ds → has set i ≡ true
    → AllZip (IsAbsentAt names fs ds) (members_from 0 i (others ds set)) xs → AllZip (IsAbsentAt names fs ds) (members_from 0 (i + 1) (others ds set)) xs
absent_same names fs ds set i xs less is before =
    subst (λ (ks : List ℕ). AllZip (IsAbsentAt names fs ds) ks xs) (sym (members_from-more (others ds set) i false (has-others ds set i true less is) ∙ append-nil (members_from 0 i (others ds set)))) before

pub absent_all : (names : List Name) (fs : List Formula) (ds : List Default) (set i : ℕ) (xs : List Absence) → i ≡ length ds → AllZip (IsAbsentAt names fs ds) (members_from 0 i (others ds set)) xs → AreAbsentOutside names fs ds set xs
absent_all names fs ds set i xs all before =
    subst (λ (ks : List ℕ). AllZip (IsAbsentAt names fs ds) ks xs)
    (ap (λ (n : ℕ). members_from 0 n (others ds set)) all ∙ sym (members-width (others ds set) (length ds) (minus-lt (length ds) (all_of ds) set (such_that-lt (length ds) (λ k. true))))) before

pub absent_none : (names : List Name) (fs : List Formula) (ds : List Default) (s : ℕ) → AllZip (IsAbsentAt names fs ds) (members_from 0 0 s) []
unfolding members_from
absent_none names fs ds s = tt
