-- A certificate and its state, belief by belief.
use Rattle.std.proofs.Common.{◌≡◌, ℕ, ◌+◌, ◌<◌, ◌≤◌, zero, suc, pred, Bool, true, false, cond, List, [], ◌∷◌, ◌++◌, ◌⊎◌, ◌↔◌, inl, inr, map, length, get_or, take, drop, arith, refl, sym, ap, ◌∙◌, subst, true≢false, Some, None, Bor}
use Rattle.std.proofs.lemmas.List.{drop_more, take_all, map_more, map_push, length-map, length-take-le}
use Rattle.mcs_sets.specs.Sets.{has, single, union}
use Rattle.mcs_sets.proofs.SetLemmas.{has-empty}
use Rattle.mcs_sets.proofs.Lattice.{in_with}
use Rattle.mcs_base.proofs.Lists.{length_zip, zip_push}
use Rattle.mcs_system.specs.Plain.{Name, Formula}
use Rattle.mcs_system.specs.Seen.{formula_of}
use Rattle.mcs_system.specs.declared.formula.Formula as code
use Rattle.mcs_trace.specs.declared.certificate.Entail.{Entail}
use Rattle.mcs_cnf.specs.ClauseLists.{IsOver, AreOver}
use Rattle.mcs_cnf.specs.Entailments.{Entailment, entailment_of, says_yes, IsAcceptedEntailment}
use Rattle.mcs_cnf.specs.Classical.{AreAcceptedEntailments, HasYes, IsAcceptedClassical}

-- ---- one more entailment
yes-push : (es : List Entailment) (e : Entailment) (b : ℕ) → HasYes (es ++ e ∷ []) b ↔ (HasYes es b ⊎ ((b ≡ length es) × (says_yes e ≡ true)))
yes-push [] e zero = (
  λ h. let said : says_yes e ≡ true = cc in inr (refl, said),
  λ h. elim h [ inl no_one ↦ let impossible : None ≡ Some true = no_one in absurd (cc) | inr (_, said) ↦ ap Some said ],
)
yes-push [] e (suc b) = (
  λ h. let impossible : None ≡ Some true = h in absurd (cc),
  λ h. elim h [ inl no_one ↦ no_one | inr (first, _) ↦ absurd (omega arith) ],
)
yes-push (x ∷ es) e zero = (
  λ h. inl h,
  λ h. elim h [ inl old ↦ old | inr (last, _) ↦ absurd (omega arith) ],
)
yes-push (x ∷ es) e (suc b) = (
  λ h. elim ((yes-push es e b).0 h) [ inl old ↦ inl old | inr (last, said) ↦ inr (ap suc last, said) ],
  λ h. (yes-push es e b).1 (elim h as (λ _. HasYes es b ⊎ ((b ≡ length es) × (says_yes e ≡ true))) [ inl old ↦ inl old | inr (last, said) ↦ inr (ap pred last, said) ]),
)

yes-more : (s i : ℕ) (es : List Entailment) (e : Entailment) (b : ℕ) → length es ≡ i → ((has s b ≡ true) ↔ HasYes es b) → (has (cond (says_yes e) (union s (single i)) s) b ≡ true) ↔ HasYes (es ++ e ∷ []) b
yes-more s i es e b len old = at (says_yes e) refl
  where
    at : (p : Bool) → says_yes e ≡ p → (has (cond p (union s (single i)) s) b ≡ true) ↔ HasYes (es ++ e ∷ []) b
    at true said = (
      λ h. (yes-push es e b).1 (elim ((in_with s i b).0 h) as (λ _. HasYes es b ⊎ ((b ≡ length es) × (says_yes e ≡ true))) [ inl is ↦ inl (old.0 is) | inr last ↦ inr (last ∙ sym len, said) ]),
      λ h. (in_with s i b).1 (elim ((yes-push es e b).0 h) as (λ _. (has s b ≡ true) ⊎ (b ≡ i)) [ inl is ↦ inl (old.1 is) | inr (last, _) ↦ inr (last ∙ len) ]),
    )
    at false not_said = (
      λ h. (yes-push es e b).1 (inl (old.0 h)),
      λ h. elim ((yes-push es e b).0 h) [ inl is ↦ old.1 is | inr (last, said) ↦ absurd (true≢false (sym said ∙ not_said)) ],
    )

-- ---- formulas that are lent
lent_each : (lent : List (Bor code.Formula)) → map (λ b. formula_of b.now) lent ≡ map formula_of (map (λ b. b.now) lent)
lent_each [] = refl
lent_each (b ∷ bs) = ap (λ fs. formula_of b.now ∷ fs) (lent_each bs)

pub lent_formulas : (lent : List (Bor code.Formula)) (formulas : List code.Formula) → map (λ b. b.now) lent ≡ formulas → map (λ b. formula_of b.now) lent ≡ map formula_of formulas
lent_formulas lent formulas same = lent_each lent ∙ ap (map formula_of) same

-- ---- the code's loop, over beliefs that are seen as formulas
module _ {A : Type 0} (seen : A → Formula) where
  -- what is shown so far of the first i beliefs
  pub record IsShown (names : List Name) (fs : List Formula) (beliefs : List A) (i state : ℕ) (es : List Entail) : Type 0 where
    pub accepted : AreAcceptedEntailments names fs (map seen (take i beliefs)) (map entailment_of es)
    pub yes : (b : ℕ) → (has state b ≡ true) ↔ HasYes (map entailment_of es) b

  pub shown-more : (names : List Name) (fs : List Formula) (beliefs : List A) (i state state' : ℕ) (es es' : List Entail) (f : A) (e : Entail) → i < length beliefs → f ≡ get_or beliefs i f
      → state' ≡ cond (says_yes (entailment_of e)) (union state (single i)) state → es' ≡ es ++ e ∷ [] → IsAcceptedEntailment names fs (seen f) (entailment_of e) → IsShown names fs beliefs i state es → IsShown names fs beliefs (i + 1) state' es'
  shown-more names fs beliefs i state state' es es' f e less is next pushed accepted shown =
      let gs : map seen (take (i + 1) beliefs) ≡ map seen (take i beliefs) ++ seen f ∷ [] = rw is (map_more seen beliefs i f less) in
      let xs : map entailment_of es' ≡ map entailment_of es ++ entailment_of e ∷ [] = ap (map entailment_of) pushed ∙ map_push entailment_of es e in
      let len : length (map entailment_of es) ≡ i = sym (length_zip (IsAcceptedEntailment names fs) (map seen (take i beliefs)) (map entailment_of es) shown.accepted) ∙ length-map (take i beliefs) seen ∙ length-take-le i beliefs (omega arith) in
      record {
        accepted = subst (λ (ys : List Entailment). AreAcceptedEntailments names fs (map seen (take (i + 1) beliefs)) ys) (sym xs)
            (subst (λ (hs : List Formula). AreAcceptedEntailments names fs hs (map entailment_of es ++ entailment_of e ∷ [])) (sym gs)
            (zip_push (IsAcceptedEntailment names fs) (map seen (take i beliefs)) (map entailment_of es) (seen f) (entailment_of e) shown.accepted accepted));
        yes = λ b. subst (λ (ys : List Entailment). (has state' b ≡ true) ↔ HasYes ys b) (sym xs)
            (subst (λ (s : ℕ). (has s b ≡ true) ↔ HasYes (map entailment_of es ++ entailment_of e ∷ []) b) (sym next) (yes-more state i (map entailment_of es) (entailment_of e) b len (shown.yes b)));
      }

  pub rest_over : (names : List Name) (beliefs : List A) (i : ℕ) (f : A) → i < length beliefs → f ≡ get_or beliefs i f → AreOver names (map seen (drop i beliefs)) → IsOver names (seen f) × AreOver names (map seen (drop (i + 1) beliefs))
  rest_over names beliefs i f less is over =
      subst (AreOver names) (ap (map seen) (drop_more beliefs i f less) ∙ ap (λ (g : A). seen g ∷ map seen (drop (i + 1) beliefs)) (sym is)) over

  pub shown-none : (names : List Name) (fs : List Formula) (beliefs : List A) → IsShown names fs beliefs 0 0 []
  shown-none names fs beliefs = record {
    accepted = tt;
    yes = λ b. (λ h. absurd (true≢false (sym h ∙ has-empty b)), λ no_one. let impossible : None ≡ Some true = no_one in absurd (cc));
  }

  pub shown-all : (names : List Name) (fs : List Formula) (beliefs : List A) (i state : ℕ) (es : List Entail) → length beliefs ≤ i → IsShown names fs beliefs i state es → IsAcceptedClassical names fs (map seen beliefs) (state ∷ []) (map entailment_of es)
  shown-all names fs beliefs i state es past shown = record {
    view = state;
    only = refl;
    shown = record {
      entailments = subst (λ (bs : List A). AreAcceptedEntailments names fs (map seen bs) (map entailment_of es)) (take_all i beliefs past) shown.accepted;
      exactly = shown.yes;
    };
  }
