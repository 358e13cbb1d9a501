-- Going along the edges, the first ones that meet a set in one mark alone are noted.
use Rattle.std.proofs.Common.{◌≡◌, ◌≢◌, ℕ, ◌+◌, ◌<◌, ◌≤◌, Bool, true, false, eqb, List, length, set, get_or, replicate, Option, Some, None, MatchOption, IsTrue, refl, sym, ap, ◌∙◌, subst, inl, inr, arith, true≢false}
use Rattle.std.proofs.lemmas.Bool.Decides.{nat_tests}
use Rattle.std.proofs.lemmas.Bool.{cases_lt}
use Rattle.std.proofs.lemmas.List.{get_or_default, get_or-set_same, get_or-set_other, length-set, get_or-replicate, length-replicate}
use Rattle.mcs_sets.specs.Sets.{has, single, minus}
use Rattle.mcs_sets.proofs.SetLemmas.{has-empty}
use Rattle.mcs_sets.proofs.Lattice.{has-without_itself, has-without_other, in_minus, in_common, has-single_itself}
use Rattle.mcs_base.specs.Transversals.{MeetAloneAt}
use Rattle.mcs_transversal.specs.Transversals.{IsFirstCritical, AreFirstCritical}
use Rattle.mcs_transversal.proofs.CriticalLemmas.{alone-same}

-- no edge before this place meets the set in this mark alone
abbrev pub NoneBefore : List ℕ → ℕ → ℕ → ℕ → Type 0
NoneBefore edges t index k = (j : ℕ) → j < index → ¬ MeetAloneAt (get_or edges j 0) t k

-- those before this place are noted, and these marks of the set are left
pub record AreNoted (edges : List ℕ) (t index left : ℕ) (firsts : List (Option ℕ)) : Type 0 where
  pub one_each : length firsts ≡ 128
  pub each : (k : ℕ) → k < 128 → MatchOption (get_or firsts k None) (NoneBefore edges t index k) (IsFirstCritical edges t k)
  pub left_is : (k : ℕ) → k < 128 → get_or firsts k None ≡ None → IsTrue (has t k) → IsTrue (has left k)
  pub unseen : (k : ℕ) → k < 128 → IsTrue (has left k) → get_or firsts k None ≡ None

-- what meets the set in a mark alone meets it there
in_set : (e t k : ℕ) → MeetAloneAt e t k → has t k ≡ true
in_set e t k alone = (in_common e t k (ap (λ s. has s k) alone ∙ has-single_itself k)).1

module _ (edges : List ℕ) (t : ℕ) where
  pub none_noted : AreNoted edges t 0 t (replicate 128 None)
  none_noted = record {
    one_each = length-replicate {A = Option ℕ} 128 None;
    each = λ k less. rw (empty k less) (λ j before. absurd (omega arith));
    left_is = λ k less is in_t. in_t;
    unseen = λ k less in_t. empty k less;
  }
    where
      empty : (k : ℕ) → k < 128 → get_or (replicate {A = Option ℕ} 128 None) k None ≡ None
      empty k less = get_or-replicate 128 k None None less

  -- where none is left, the others are met by no edge alone
  pub none_left : (index left : ℕ) (firsts : List (Option ℕ)) → left ≡ 0 → AreNoted edges t index left firsts → AreFirstCritical edges t firsts
  none_left index left firsts empty noted = record { one_each = noted.one_each; each = λ k less. at k less (get_or firsts k None) refl (noted.each k less) }
    where
      at : (k : ℕ) → k < 128 → (o : Option ℕ) → get_or firsts k None ≡ o → MatchOption o (NoneBefore edges t index k) (IsFirstCritical edges t k) → MatchOption o (NoneBefore edges t (length edges) k) (IsFirstCritical edges t k)
      at k less None is before = λ j there alone. true≢false (sym (noted.left_is k less is (in_set _ t k alone)) ∙ ap (λ s. has s k) empty ∙ has-empty k)
      at k less (Some i) is first = first

  pub all_seen : (index left : ℕ) (firsts : List (Option ℕ)) → length edges ≤ index → AreNoted edges t index left firsts → AreFirstCritical edges t firsts
  all_seen index left firsts past noted = record { one_each = noted.one_each; each = λ k less. at k (get_or firsts k None) (noted.each k less) }
    where
      at : (k : ℕ) (o : Option ℕ) → MatchOption o (NoneBefore edges t index k) (IsFirstCritical edges t k) → MatchOption o (NoneBefore edges t (length edges) k) (IsFirstCritical edges t k)
      at k None before = λ j there. before j (omega arith)
      at k (Some i) first = first

  module _ (index left e : ℕ) (firsts : List (Option ℕ)) (less : index < length edges) (here : e ≡ get_or edges index e) (noted : AreNoted edges t index left firsts) where
    edge_there : get_or edges index 0 ≡ e
    edge_there = get_or_default edges index 0 e less ∙ sym here

    -- what meets the set alone up to here does so before, or it is this edge
    seen : (k : ℕ) → NoneBefore edges t index k → ¬ MeetAloneAt e t k → NoneBefore edges t (index + 1) k
    seen k before not j there = elim (cases_lt j index) [
      | inl earlier ↦ before j earlier
      | inr past ↦ λ alone. not (subst (λ (f : ℕ). MeetAloneAt f t k) (at j (omega arith)) alone)
    ]
      where
        at : (j : ℕ) → j ≡ index → get_or edges j 0 ≡ e
        at j same = ap (λ (i : ℕ). get_or edges i 0) same ∙ edge_there

    pub nothing_new : ((k : ℕ) → IsTrue (has left k) → ¬ MeetAloneAt e t k) → AreNoted edges t (index + 1) left firsts
    nothing_new none = record { one_each = noted.one_each; each = λ k small. at k small (get_or firsts k None) refl (noted.each k small); left_is = noted.left_is; unseen = noted.unseen }
      where
        at : (k : ℕ) → k < 128 → (o : Option ℕ) → get_or firsts k None ≡ o → MatchOption o (NoneBefore edges t index k) (IsFirstCritical edges t k) → MatchOption o (NoneBefore edges t (index + 1) k) (IsFirstCritical edges t k)
        at k small None is before = seen k before (λ alone. none k (noted.left_is k small is (in_set e t k alone)) alone)
        at k small (Some i) is first = first

    pub one_noted : (mark : ℕ) → mark < 128 → MeetAloneAt e t mark → IsTrue (has left mark) → AreNoted edges t (index + 1) (minus left (single mark)) (set firsts mark (Some index))
    one_noted mark low alone is_left = record {
      one_each = length-set firsts mark (Some index) ∙ noted.one_each;
      each = λ k small. each k small (eqb k mark) refl;
      left_is = λ k small is in_t. left_is k small is in_t (eqb k mark) refl;
      unseen = λ k small is. unseen k small is (eqb k mark) refl;
    }
      where
        now : List (Option ℕ)
        now = set firsts mark (Some index)

        there : get_or now mark None ≡ Some index
        there = get_or-set_same firsts mark (Some index) None (omega (arith, noted.one_each))

        other : (k : ℕ) → eqb k mark ≡ false → get_or now k None ≡ get_or firsts k None
        other k differ = get_or-set_other firsts mark k (Some index) None (let unlike : k ≢ mark = grind (arith, nat_tests) in unlike)

        here_first : IsFirstCritical edges t mark index
        here_first = record { in_range = less; alone = subst (λ (f : ℕ). MeetAloneAt f t mark) (sym edge_there) alone; none_before = before (get_or firsts mark None) (noted.unseen mark low is_left) (noted.each mark low) }
          where
            before : (o : Option ℕ) → o ≡ None → MatchOption o (NoneBefore edges t index mark) (IsFirstCritical edges t mark) → NoneBefore edges t index mark
            before None e none = none
            before (Some i) e first = absurd (cc)

        later : (k : ℕ) → eqb k mark ≡ false → (o : Option ℕ) → MatchOption o (NoneBefore edges t index k) (IsFirstCritical edges t k) → MatchOption o (NoneBefore edges t (index + 1) k) (IsFirstCritical edges t k)
        later k differ None before = seen k before (λ alone'. let same : k ≡ mark = alone-same e t k mark alone' alone in true≢false (let yes : eqb k mark ≡ true = grind (arith, nat_tests) in sym yes ∙ differ))
        later k differ (Some i) first = first

        each : (k : ℕ) → k < 128 → (v : Bool) → eqb k mark ≡ v → MatchOption (get_or now k None) (NoneBefore edges t (index + 1) k) (IsFirstCritical edges t k)
        each k small true is = let same : mark ≡ k = grind (arith, nat_tests) in subst (λ (j : ℕ). MatchOption (get_or now j None) (NoneBefore edges t (index + 1) j) (IsFirstCritical edges t j)) same (rw there here_first)
        each k small false is = rw (other k is) (later k is (get_or firsts k None) (noted.each k small))

        left_is : (k : ℕ) → k < 128 → get_or now k None ≡ None → has t k ≡ true → (v : Bool) → eqb k mark ≡ v → has (minus left (single mark)) k ≡ true
        left_is k small none in_t true is =
            let same : k ≡ mark = grind (arith, nat_tests) in
            let at_mark : get_or now mark None ≡ None = ap (λ (j : ℕ). get_or now j None) (sym same) ∙ none in
            let clash : Some index ≡ None = sym there ∙ at_mark in absurd (cc)
        left_is k small none in_t false is = has-without_other left mark k (noted.left_is k small (sym (other k is) ∙ none) in_t) is

        unseen : (k : ℕ) → k < 128 → has (minus left (single mark)) k ≡ true → (v : Bool) → eqb k mark ≡ v → get_or now k None ≡ None
        unseen k small is true at_mark = let same : k ≡ mark = grind (arith, nat_tests) in absurd (true≢false (sym is ∙ ap (has (minus left (single mark))) same ∙ has-without_itself left mark))
        unseen k small is false differ = other k differ ∙ noted.unseen k small (in_minus left (single mark) k is).0
