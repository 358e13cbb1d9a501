-- A formula follows exactly where the clauses of the formulas with its negation are not satisfied.
use Rattle.std.proofs.Common.{◌≡◌, ℕ, zero, suc, Bool, true, false, not, ◌&&◌, List, [], ◌∷◌, ◌↔◌, filter, length, refl, sym, ap, ◌∙◌, subst, true≢false, inl, inr, Some, None, slice_get}
use Rattle.std.proofs.lemmas.Bool.{and_parts, not-true, and_from}
use Rattle.std.proofs.lemmas.Bool.Decides.{same_from_decides}
use Rattle.mcs_sets.specs.Sets.{has}
use Rattle.mcs_sets.specs.Orders.{StateBefore}
use Rattle.mcs_sets.proofs.SetLemmas.{same_set}
use Rattle.mcs_base.specs.Listings.{IsAmong, IsListing}
use Rattle.mcs_system.specs.Plain.{Name, Formula, Classical, Not}
use Rattle.mcs_system.specs.Logic.{BeliefSet, Theory, Atoms, SameModels, Accepts, holds, holds_all, true_names, Entails}
use Rattle.mcs_system.specs.Views.{Shows, IsAcceptedView}
use Rattle.std.proofs.lemmas.List.Folds.{list_all-append}
use Rattle.std.proofs.Math.Bool.{and-true}
use Rattle.mcs_base.proofs.Each.{all_push}
use Rattle.mcs_trace.specs.Clauses.{IsUnsatisfiable}
use Rattle.mcs_trace.specs.Traces.{Inference, IsAcceptedTrace}
use Rattle.mcs_trace.proofs.TraceLemmas.{refutes-any}
use Rattle.mcs_system.proofs.NameLemmas.{is_in-filter}
use Rattle.mcs_cnf.specs.ClauseLists.{atom_number, list_clauses, clause_list, IsOver, AreOver}
use Rattle.mcs_cnf.specs.Meaning.{Extends}
use Rattle.mcs_cnf.specs.Entailments.{Entailment, Yes, No, says_yes, with_negated, IsAcceptedEntailment}
use Rattle.mcs_cnf.specs.Classical.{AreAcceptedEntailments, HasYes}
use Rattle.mcs_cnf.specs.Laws.{ShownBeliefsFollow, ClassicalCertificatesAreSound}
use Rattle.mcs_cnf.proofs.MeaningLemmas.{extended, satisfied}
use Rattle.mcs_cnf.proofs.NoZeros.{list_no_zero}

-- ---- the assignment that variables stand for
read_off : List Name → (ℕ → Bool) → List Name
read_off names v = filter (λ n. v (atom_number names n)) names

read_off-extends : (names : List Name) (v : ℕ → Bool) → Extends names (read_off names v) v
unfolding read_off
read_off-extends names v n known = sym (is_in-filter (λ n. v (atom_number names n)) n names ∙ ap (λ b. b && v (atom_number names n)) known)

-- ---- the negated goal after the formulas
pub over_with : (names : List Name) (fs : List Formula) (g : Formula) → AreOver names fs → IsOver names g → AreOver names (with_negated fs g)
over_with names fs g over over' = all_push (IsOver names) fs (Not g) over over'

holds_with : (a : List Name) (fs : List Formula) (g : Formula) → holds_all a (with_negated fs g) ≡ (holds_all a fs && not (holds a g))
holds_with a fs g = list_all-append (holds a) fs (Not g ∷ []) ∙ ap (λ b. holds_all a fs && b) (and-true (not (holds a g)))

pub parts_with : (a : List Name) (fs : List Formula) (g : Formula) → holds_all a (with_negated fs g) ≡ true → (holds_all a fs ≡ true) × (holds a g ≡ false)
parts_with a fs g h = let (hs, no_g) = and_parts (holds_all a fs) (not (holds a g)) (sym (holds_with a fs g) ∙ h) in (hs, not-true (holds a g) no_g)

pub refutation : (fs : List Formula) (g : Formula) (names : List Name) → AreOver names fs → IsOver names g → Entails fs g ↔ IsUnsatisfiable (list_clauses names (length names) (with_negated fs g))
refutation fs g names over over' = (to, from)
  where
    to : Entails fs g → IsUnsatisfiable (list_clauses names (length names) (with_negated fs g))
    to follows v h =
        let (hs, no_g) = parts_with (read_off names v) fs g (satisfied (with_negated fs g) names (read_off names v) v (over_with names fs g over over') (read_off-extends names v) h) in
        true≢false (sym (follows (read_off names v) hs) ∙ no_g)

    from : IsUnsatisfiable (list_clauses names (length names) (with_negated fs g)) → Entails fs g
    from unsatisfiable a hs = at (holds a g) refl
      where
        at : (b : Bool) → holds a g ≡ b → holds a g ≡ true
        at true e = e
        at false e =
            let (v, extends, h) = extended (with_negated fs g) names a (over_with names fs g over over') (holds_with a fs g ∙ and_from (holds_all a fs) (not (holds a g)) hs (ap not e)) in
            absurd (unsatisfiable v h)

-- ---- accepted traces
-- formulas whose clauses are refuted hold under no assignment
pub none_hold : (names : List Name) (fs : List Formula) (steps : List Inference) → AreOver names fs → IsAcceptedTrace (clause_list names fs).clauses steps → (a : List Name) → ¬ (holds_all a fs ≡ true)
none_hold names fs steps over accepted a h =
    let (v, extends, all) = extended fs names a over h in
    refutes-any _ steps (list_no_zero names (length names) fs) accepted v all

-- ---- accepted entailments
pub sound : (fs : List Formula) (g : Formula) (names : List Name) (e : Entailment) → AreOver names fs → IsOver names g → IsAcceptedEntailment names fs g e → (says_yes e ≡ true) ↔ Entails fs g
sound fs g names (Yes steps) over over' accepted =
    (λ _. (refutation fs g names over over').1 (refutes-any (list_clauses names (length names) (with_negated fs g)) steps (list_no_zero names (length names) (with_negated fs g)) accepted), λ _. refl)
sound fs g names (No places) over over' refuted =
    (λ e. absurd (true≢false (sym e)), λ follows. absurd (true≢false (sym (follows (true_names 0 names places) refuted.model.formulas) ∙ refuted.goal)))

-- ---- accepted certificates
abbrev Follows : List Formula → List Formula → ℕ → Type 0
Follows fs beliefs b = (g : Formula) × (slice_get beliefs b ≡ Some g) × Entails fs g

yes_at : (fs : List Formula) (names : List Name) (beliefs : List Formula) (es : List Entailment) (b : ℕ) → AreOver names fs → AreOver names beliefs → AreAcceptedEntailments names fs beliefs es → HasYes es b ↔ Follows fs beliefs b
yes_at fs names [] [] b over over' accepted = (λ e. let no_one : None ≡ Some true = e in absurd (cc), λ (g, e, follows). let no_one : None ≡ Some g = e in absurd (cc))
yes_at fs names [] (e ∷ es) b over over' accepted = absurd accepted
yes_at fs names (g ∷ gs) [] b over over' accepted = absurd accepted
yes_at fs names (g ∷ gs) (e ∷ es) zero over over' accepted =
    let is = sound fs g names e over over'.0 accepted.0 in (
      λ h. let yes : says_yes e ≡ true = cc in (g, refl, is.0 yes),
      λ (g', same, follows). let one : g ≡ g' = cc in ap Some (is.1 (subst (Entails fs) (sym one) follows)),
    )
yes_at fs names (g ∷ gs) (e ∷ es) (suc b) over over' accepted = yes_at fs names gs es b over over'.1 accepted.1

pub shown_follow : ShownBeliefsFollow
shown_follow names fs beliefs places es over over' shown k = let is = yes_at fs names beliefs es k over over' shown.entailments in (λ h. is.0 ((shown.exactly k).0 h), λ h. (shown.exactly k).1 (is.1 h))

-- ---- the one view of a classical context
pub one_view : (fs beliefs : List Formula) (places : ℕ) → Shows (Theory fs) beliefs places → IsListing (IsAcceptedView (Classical fs) beliefs) StateBefore (places ∷ [])
one_view fs beliefs places shows = record { exactly = λ x. (to x, from x); ascending = (tt, tt) }
  where
    to : (x : ℕ) → IsAmong x (places ∷ []) → IsAcceptedView (Classical fs) beliefs x
    to x (inl e) = record { belief_set = Theory fs; accepted = λ a. refl; shown = subst (Shows (Theory fs) beliefs) (sym e) shows }
    to x (inr none) = absurd none

    follows : (e : List Formula) → SameModels e fs → (p : Formula) → Entails e p ↔ Entails fs p
    follows e same p = (λ h a all. h a (same a ∙ all), λ h a all. h a (sym (same a) ∙ all))

    from : (x : ℕ) → IsAcceptedView (Classical fs) beliefs x → IsAmong x (places ∷ [])
    from x view = at view.belief_set view.accepted view.shown
      where
        at : (b : BeliefSet) → Accepts (Classical fs) b → Shows b beliefs x → IsAmong x (places ∷ [])
        at (Atoms a) none shown = absurd none
        at (Theory e) same shown = inl (same_set x places (λ k. same_from_decides {P = has places k ≡ true} (has x k) (has places k) (
          λ h. let (p, is, believes) = (shown k).0 h in (shows k).1 (p, is, (follows e same p).0 believes),
          λ h. let (p, is, believes) = (shows k).0 h in (shown k).1 (p, is, (follows e same p).1 believes),
        )
            (λ h. h, λ h. h)))

pub classical_sound : ClassicalCertificatesAreSound
classical_sound names fs beliefs outputs es over over' accepted =
    subst (λ (xs : List ℕ). IsListing (IsAcceptedView (Classical fs) beliefs) StateBefore xs) (sym accepted.only) (one_view fs beliefs accepted.view (shown_follow names fs beliefs accepted.view es over over' accepted.shown))
