-- That a level has a number of questions: each question is decided, so there is a listing of them.
use Rattle.std.proofs.Common.{◌≡◌, ℕ, ◌+◌, ◌^◌, ◌<◌, ◌≤◌, IsTrue, List, [], ◌∷◌, length, map, reverse, Some, slice_get, refl, sym, ◌∙◌, inl, inr, ◌⊎◌, subst, arith}
use Rattle.std.proofs.lemmas.Bool.{cases_eq, cases_lt}
use Rattle.std.proofs.lemmas.List.FromFn.{length-map-range_with_len, get_or-map-range_with_len}
use Rattle.std.proofs.lemmas.Option.{slice_get_within, same_Some}
use Rattle.mcs_base.proofs.Lists.{slice_get_read_as}
use Rattle.std.specs.List.{AllByRecursion, range_with_len, sum_by}
use Rattle.mcs_sets.specs.Sets.{common, size, Within}
use Rattle.mcs_sets.proofs.Lattice.{cases_within, below_from_within}
use Rattle.mcs_sets.proofs.SetLemmas.{Within-le, such_that-lt}
use Rattle.mcs_base.specs.Listings.{IsListing}
use Rattle.mcs_base.proofs.Among.{among_reverse}
use Rattle.mcs_base.proofs.Each.{all_among, all_from_among}
use Rattle.mcs_base.proofs.Booleans.{test_of, test_of-tells}
use Rattle.mcs_base.proofs.ListingLemmas.{listing_below, IsListing-same}
use Rattle.mcs_system.specs.Plain.{System}
use Rattle.mcs_system.specs.Systems.{variables, variables_of, IsAcceptedPart}
use Rattle.mcs_system.specs.Repairs.{allowed_marks}
use Rattle.mcs_system.specs.Imports.{imports, goes_into, rules_into, marks_at, before_in, IsImportOrder, IsQuestionAfter, IsPossibleFrom, IsQuestion}
use Rattle.mcs_system.specs.Levels.{IsQuestionAt}
use Rattle.mcs_import.proofs.OrderLemmas.{import_order_exists, import_order_is_one, order_in_range, before_each}
use Rattle.mcs_laws.proofs.Existence.{DecidesParts}
use Rattle.mcs_system.proofs.ContextSets.{states_known}
use Rattle.mcs_base.proofs.Deciding.{cases_all, cases_both, cases_implies, cases_le, cases_some_below, cases_true}
use Rattle.mcs_existence.proofs.SystemListings.{parts_decided}
use Rattle.mcs_existence.specs.Laws.{CountsExist}

part_cases : (m : System) (i x τ : ℕ) → i < length m.contexts → IsAcceptedPart m i x τ ⊎ (¬ IsAcceptedPart m i x τ)
unfolding DecidesParts
part_cases m i x τ less = parts_decided m i x τ less

-- ---- whether a set of rules is a question
module _ (m : System) (level : ℕ) where
  -- the state shows that x is one
  ShowsQuestion : List ℕ → (ℕ → ℕ → Type 0) → ℕ → ℕ → ℕ → Type 0
  ShowsQuestion earlier poss i x state =
      AllByRecursion (λ j. IsTrue (imports m i j) → poss j (common state (variables_of m j))) earlier × (Within (marks_at m i state x) (allowed_marks m) × (size (marks_at m i state x) ≤ level))

  question_cases : (earlier : List ℕ) (poss : ℕ → ℕ → Type 0) → ((j τ : ℕ) → poss j τ ⊎ (¬ poss j τ)) → (i x : ℕ) → IsQuestionAfter m level earlier poss i x ⊎ (¬ IsQuestionAfter m level earlier poss i x)
  unfolding ShowsQuestion
  question_cases earlier poss decides i x = elim (cases_within x (rules_into m i)) [
    | inr never ↦ inr (λ h. never h.of_rules)
    | inl inside ↦ elim (cases_some_below (ShowsQuestion earlier poss i x) (2 ^ length (variables m)) shown) [
      | inl (state, low, (each, (allowed, few))) ↦ inl (record {
        of_rules = inside;
        state = state;
        of_variables = states_known m state low;
        supplies = λ j among imported. all_among (λ j. IsTrue (imports m i j) → poss j (common state (variables_of m j))) earlier j each among imported;
        allowed = allowed;
        near = few;
      })
      | inr none ↦ inr (λ h. none (
        h.state,
        below_from_within h.state (length (variables m)) h.of_variables,
        (all_from_among (λ j. IsTrue (imports m i j) → poss j (common h.state (variables_of m j))) earlier (λ j among imported. h.supplies j among imported), (h.allowed, h.near)),
      ))
    ]
  ]
    where
      shown : (state : ℕ) → ShowsQuestion earlier poss i x state ⊎ (¬ ShowsQuestion earlier poss i x state)
      shown state = cases_both
          (cases_all (λ j. IsTrue (imports m i j) → poss j (common state (variables_of m j))) earlier (λ j. cases_implies (cases_true (imports m i j)) (decides j (common state (variables_of m j)))))
          (cases_both (cases_within (marks_at m i state x) (allowed_marks m)) (cases_le (size (marks_at m i state x)) level))

  rules_low : (i x : ℕ) → Within x (rules_into m i) → x < 2 ^ length m.bridges
  unfolding rules_into
  rules_low i x inside = omega (arith, Within-le x (rules_into m i) inside, such_that-lt (length m.bridges) (λ k. goes_into i (slice_get m.bridges k)))

  AreContexts : List ℕ → Type 0
  AreContexts cs = AllByRecursion (λ c. c < length m.contexts) cs

  possible_cases : (cs : List ℕ) → AreContexts cs → (j τ : ℕ) → IsPossibleFrom m level cs j τ ⊎ (¬ IsPossibleFrom m level cs j τ)
  unfolding AreContexts
  possible_cases [] h j τ = inr (λ none. none)
  possible_cases (c ∷ cs) h j τ = at (cases_eq c j) (possible_cases cs h.1)
    where
      answer : c ≡ j → ((j τ : ℕ) → IsPossibleFrom m level cs j τ ⊎ (¬ IsPossibleFrom m level cs j τ)) → (x : ℕ)
          → (IsQuestionAfter m level cs (IsPossibleFrom m level cs) j x × IsAcceptedPart m j x τ) ⊎ (¬ (IsQuestionAfter m level cs (IsPossibleFrom m level cs) j x × IsAcceptedPart m j x τ))
      answer same earlier x = cases_both (question_cases cs (IsPossibleFrom m level cs) earlier j x) (part_cases m j x τ (subst (λ (k : ℕ). k < length m.contexts) same h.0))

      at : (c ≡ j) ⊎ (¬ (c ≡ j)) → ((j τ : ℕ) → IsPossibleFrom m level cs j τ ⊎ (¬ IsPossibleFrom m level cs j τ)) → IsPossibleFrom m level (c ∷ cs) j τ ⊎ (¬ IsPossibleFrom m level (c ∷ cs) j τ)
      at (inl same) earlier = elim (cases_some_below (λ x. IsQuestionAfter m level cs (IsPossibleFrom m level cs) j x × IsAcceptedPart m j x τ) (2 ^ length m.bridges) (answer same earlier)) [
        | inl (x, low, (question, part)) ↦ inl (inl (same, (x, question, part)))
        | inr none ↦ inr (λ p. elim p [ inl (e, (x, question, part)) ↦ none (x, rules_low j x question.of_rules, (question, part)) | inr (differ, more) ↦ differ same ])
      ]
      at (inr differ) earlier = elim (earlier j τ) [
        | inl more ↦ inl (inr (differ, more))
        | inr none ↦ inr (λ p. elim p [ inl (e, here) ↦ differ e | inr (other, more) ↦ none more ])
      ]

  -- by the import order
  module _ (order : List ℕ) (ordered : IsImportOrder m order) (i : ℕ) where
    earlier_contexts : AreContexts (reverse (before_in order i))
    unfolding AreContexts
    earlier_contexts = all_from_among (λ c. c < length m.contexts) (reverse (before_in order i)) (λ c among. all_among (λ c. c < length m.contexts) (before_in order i) c (before_each (λ c. c < length m.contexts) order i (order_in_range m order ordered)) ((among_reverse c (before_in order i)).0 among))

    cases : (x : ℕ) → IsQuestion m order level i x ⊎ (¬ IsQuestion m order level i x)
    cases x = question_cases (reverse (before_in order i)) (IsPossibleFrom m level (reverse (before_in order i))) (possible_cases (reverse (before_in order i)) earlier_contexts) i x

    listed_by : (xs : List ℕ) × IsListing (IsQuestionAt m level i) (λ a b. a < b) xs
    listed_by =
        let (xs, listing) = listing_below (λ a b. a < b) (λ x y z h k. omega (arith, h, k)) total (λ x. test_of (cases x)) (2 ^ length m.bridges) in
        (xs, IsListing-same (λ (a b : ℕ). a < b) (λ x. (x < 2 ^ length m.bridges) × IsTrue (test_of (cases x))) (IsQuestionAt m level i) xs (λ x. (to x, from x)) listing)
      where
        total : (x y : ℕ) → (x ≡ y) ⊎ ((x < y) ⊎ (y < x))
        total x y = elim (cases_lt x y) [ inl less ↦ inr (inl less) | inr most ↦ elim (cases_eq x y) [ inl same ↦ inl same | inr differ ↦ inr (inr (omega (arith, most, differ))) ] ]

        to : (x : ℕ) → (x < 2 ^ length m.bridges) × IsTrue (test_of (cases x)) → IsQuestionAt m level i x
        to x h = (order, ordered, (test_of-tells (cases x)).0 h.1)

        from : (x : ℕ) → IsQuestionAt m level i x → (x < 2 ^ length m.bridges) × IsTrue (test_of (cases x))
        from x (other, other_ordered, question) =
            let q = subst (λ (o : List ℕ). IsQuestion m o level i x) (import_order_is_one m other order other_ordered ordered) question in
            (rules_low i x q.of_rules, (test_of-tells (cases x)).1 q)

  -- the listing of the questions to a context
  questions_listed : (i : ℕ) → (xs : List ℕ) × IsListing (IsQuestionAt m level i) (λ a b. a < b) xs
  questions_listed i = let (order, ordered) = import_order_exists m in listed_by order ordered i

pub counts_exist : CountsExist
counts_exist m level =
    let lists = map (λ i. (questions_listed m level i).0) (range_with_len 0 (length m.contexts)) in
    (sum_by (λ (xs : List ℕ). length xs) lists, (lists, record { one_each = length-map-range_with_len (λ i. (questions_listed m level i).0) 0 (length m.contexts); listed = listed }, refl))
  where
    listed : (i : ℕ) (xs : List ℕ) → slice_get (map (λ i. (questions_listed m level i).0) (range_with_len 0 (length m.contexts))) i ≡ Some xs → IsListing (IsQuestionAt m level i) (λ a b. a < b) xs
    listed i xs is =
        let less : i < length m.contexts = omega (arith, slice_get_within _ i xs is, length-map-range_with_len (λ i. (questions_listed m level i).0) 0 (length m.contexts)) in
        let there = slice_get_read_as _ _ i (questions_listed m level i).0 refl (slice_get_within _ i xs is) (sym (get_or-map-range_with_len (λ i. (questions_listed m level i).0) 0 (length m.contexts) i i (questions_listed m level i).0 less (let e : 0 + i ≡ i = omega arith in e))) in
        let same : (questions_listed m level i).0 ≡ xs = same_Some _ _ (sym there ∙ is) in
        subst (IsListing (IsQuestionAt m level i) (λ a b. a < b)) same (questions_listed m level i).1
