-- Finding an answer among those to ascending questions.
use Rattle.std.proofs.Common.{◌≡◌, ℕ, ◌<◌, ◌≤◌, Bool, IsTrue, Result, Ok, Err, is_ok, List, length, get_or, take, nat_cmp, arith, sym, ap, ◌∙◌, subst, inl, inr, true≢false}
use Rattle.std.proofs.lemmas.Bool.{cases_lt}
use Rattle.std.proofs.lemmas.List.{get_or-map, length-map, get_or-take, length-take}
use Rattle.std.specs.List.Sorted.{IsPartitionedBy, IsBinarySearchResult, IsSearchInRange}
use Rattle.std.specs.FinMap.{nat_cmp-IsAntisymmetric}
use Rattle.mcs_base.specs.Listings.{IsAmong}
use Rattle.mcs_base.proofs.Among.{map_among, place_among, among_at}
use Rattle.mcs_base.proofs.Ascending.{before_at}
use Rattle.mcs_base.proofs.NumberCases.{less_test, test_less}
use Rattle.mcs_rows.specs.Finding.{asked_in, is_question_before, AreAscendingQuestions, QuestionsEndAt, IsAnswerTo}
use Rattle.mcs_rows.specs.declared.answer.Answer.{Answer}

module _ (answers : List Answer) (up : AreAscendingQuestions answers) where
  in_order : (i j : ℕ) (d : Answer) → i < j → j < length answers → (get_or answers i d).active < (get_or answers j d).active
  in_order i j d less bound =
      let long : length (asked_in answers) ≡ length answers = length-map answers (λ (a : Answer). a.active) in
      let e : get_or (asked_in answers) i d.active ≡ (get_or answers i d).active = get_or-map (λ (a : Answer). a.active) answers i d d.active (omega arith) in
      let e' : get_or (asked_in answers) j d.active ≡ (get_or answers j d).active = get_or-map (λ (a : Answer). a.active) answers j d d.active bound in
      let before : get_or (asked_in answers) i d.active < get_or (asked_in answers) j d.active = before_at (λ (a b : ℕ). a < b) (asked_in answers) j d.active (omega arith) up (get_or (asked_in answers) i d.active) (subst (λ (v : ℕ). IsAmong v (take j (asked_in answers))) (get_or-take j (asked_in answers) i d.active less) (among_at (take j (asked_in answers)) i d.active (omega (arith, length-take j (asked_in answers))))) in
      omega arith

  pub parted : (x : ℕ) → IsPartitionedBy (is_question_before x) answers
  parted x i j d le less h = elim (cases_lt i j) [
    | inl before ↦ less_test (get_or answers i d).active x (let first = in_order i j d before less in let second = test_less (get_or answers j d).active x h in omega arith)
    | inr past ↦ let same : i ≡ j = omega arith in ap (λ k. is_question_before x (get_or answers k d)) same ∙ h
  ]

  module _ (x n : ℕ) (point : QuestionsEndAt x answers n) where
    -- an answer to x stands at the place, not before it or after it
    at_place : (k : ℕ) (d : Answer) → k < length answers → (get_or answers k d).active ≡ x → k ≡ n
    at_place k d bound here = elim (cases_lt k n) as (λ _. k ≡ n) [
      | inl before ↦ absurd (let small : (get_or answers k d).active < x = test_less (get_or answers k d).active x (point.0 k d (omega arith) before) in omega arith)
      | inr past ↦ elim (cases_lt n k) as (λ _. k ≡ n) [
        | inl later ↦ absurd (true≢false (sym (less_test (get_or answers n d).active x (let first = in_order n k d later bound in omega arith)) ∙ point.1 n d (omega arith) (omega arith)))
        | inr not_later ↦ omega arith
      ]
    ]

    place_of : (b : Answer) → IsAmong b answers → b.active ≡ x → (n < length answers) × ((d : Answer) → get_or answers n d ≡ b)
    place_of b among is =
        let (k, less, same) = place_among answers b among in
        let place : k ≡ n = at_place k b less (ap (λ (a : Answer). a.active) (same b) ∙ is) in
        (subst (λ (z : ℕ). z < length answers) place less, λ d. subst (λ (z : ℕ). get_or answers z d ≡ b) place (same d))

    pub none_past : length answers ≤ n → ¬ IsAmong x (asked_in answers)
    none_past past among =
        let (b, here, e) = map_among (λ (a : Answer). a.active) x answers among in
        let (less, same) = place_of b here (sym e) in
        omega arith

    pub none_other : (d : Answer) → ¬ ((get_or answers n d).active ≡ x) → ¬ IsAmong x (asked_in answers)
    none_other d differ among =
        let (b, here, e) = map_among (λ (a : Answer). a.active) x answers among in
        let (less, same) = place_of b here (sym e) in
        differ (ap (λ (a : Answer). a.active) (same d) ∙ sym e)

    pub answer_at : (a : Answer) → n < length answers → a ≡ get_or answers n a → a.active ≡ x → IsAnswerTo answers x a
    answer_at a less here is = record {
      among = subst (λ (b : Answer). IsAmong b answers) (sym here) (among_at answers n a less);
      active = is;
      one = λ b among is'. let (less', same) = place_of b among is' in sym (same a) ∙ sym here;
    }

-- the same of a question
pub found_question : (xs : List ℕ) (x : ℕ) (r : Result ℕ ℕ) → IsSearchInRange r (length xs) → IsBinarySearchResult (λ y. nat_cmp y x) xs r → (b : Bool) → b ≡ is_ok r → IsTrue b → IsAmong x xs
found_question xs x (Ok i) bound found b is h = subst (λ (z : ℕ). IsAmong z xs) (nat_cmp-IsAntisymmetric (get_or xs i 0) x (found 0)) (among_at xs i 0 bound)
found_question xs x (Err i) bound found b is h = absurd (true≢false (sym h ∙ is))
