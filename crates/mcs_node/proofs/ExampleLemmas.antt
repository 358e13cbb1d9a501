-- The round of a system in which the second context reads a fact of the first.
use Rattle.std.proofs.Common.{◌≡◌, ℕ, ◌+◌, ◌<◌, zero, suc, true≢false, List, [], ◌∷◌, length, slice_get, refl, sym, ap, ◌∙◌, subst, inl, inr, arith}
use Rattle.std.proofs.lemmas.Bool.{cases_lt}
use Rattle.std.specs.List.{sum_by}
use Rattle.mcs_base.specs.Listings.{IsAmong, IsListing}
use Rattle.mcs_base.proofs.Lists.{two_of}
use Rattle.mcs_base.proofs.Sums.{sum_of_two}
use Rattle.mcs_sets.proofs.SetLemmas.{Within-le, such_that-lt}
use Rattle.mcs_system.specs.Imports.{imports, Reaches, directly, through, IsReadyContext, IsImportOrder, supplied, goes_into, rules_into}
use Rattle.mcs_system.specs.Levels.{IsQuestionAt, IsCount}
use Rattle.mcs_laws.specs.Examples.{one_reads_fact}
use Rattle.mcs_laws.proofs.Supplies.{questions_take_supplies}
use Rattle.mcs_node.specs.Rounds.{Supplies, IsNewQuestion}
use Rattle.mcs_node.specs.Steps.{IsNeedOf}
use Rattle.mcs_node.specs.Worked.{AreTwo, first_round, next_round, ExampleIsOfTwo}
use Rattle.mcs_node.specs.Replay.{ExampleNeedsOneEach}
use Rattle.mcs_node.proofs.SupplyLemmas.{supplied_by}
use Rattle.mcs_node.proofs.WorkedLemmas.{need_one}

-- ---- the import order
imports_nothing : (i j : ℕ) → i ≡ 0 → ¬ Reaches one_reads_fact i j
imports_nothing i j e (directly a b is) = true≢false (sym is ∙ ap (λ (k : ℕ). imports one_reads_fact k b) e)
imports_nothing i j e (through a b c is later) = true≢false (sym is ∙ ap (λ (k : ℕ). imports one_reads_fact k b) e)

first_ready : IsReadyContext one_reads_fact [] 0
first_ready = record { in_range = omega arith; untaken = (λ h. h); back = (λ j less untaken reaches. absurd (imports_nothing 0 j refl reaches)) }

second_ready : IsReadyContext one_reads_fact (0 ∷ []) 1
second_ready = record {
  in_range = omega arith;
  untaken = (λ h. elim h [ inl e ↦ absurd (omega (arith, e)) | inr nothing ↦ nothing ]);
  back = (λ j less untaken reaches. let apart : ¬ (j ≡ 0) = (λ e. untaken (inl e)) in let only : j ≡ 1 = omega arith in
      subst (λ (k : ℕ). Reaches one_reads_fact k 1) (sym only) (subst (λ (k : ℕ). Reaches one_reads_fact 1 k) only reaches));
}

is_second : (j : ℕ) → IsReadyContext one_reads_fact (0 ∷ []) j → j ≡ 1
is_second j ready = let less = ready.in_range in let apart : ¬ (j ≡ 0) = (λ e. ready.untaken (inl e)) in omega arith

in_order : IsImportOrder one_reads_fact (0 ∷ 1 ∷ [])
in_order = (
  record { ready = first_ready; lowest = (λ j ready. omega arith) },
  (
    record { ready = second_ready; lowest = (λ j ready. let is = is_second j ready in omega (arith, is)) },
    λ i less. elim (cases_lt i 1) [ inl low ↦ inl (omega arith) | inr high ↦ inr (inl (omega arith)) ],
  ),
)

-- ---- who supplies whom
alone_in : (j i : ℕ) → i < 2 → IsAmong j (supplied one_reads_fact (0 ∷ 1 ∷ []) i) → (j ≡ 0) × (i ≡ 1)
alone_in j zero less h = absurd h
alone_in j (suc zero) less (inl e) = (e, refl)
alone_in j (suc zero) less (inr none) = absurd none
alone_in j (suc (suc i)) less h = absurd (omega (arith, less))

alone : (j i : ℕ) → Supplies one_reads_fact j i → (j ≡ 0) × (i ≡ 1)
alone j i s = alone_in j i s.2 (supplied_by one_reads_fact (0 ∷ 1 ∷ []) i j in_order s)

supplies : Supplies one_reads_fact 0 1
supplies = (0 ∷ 1 ∷ [], in_order, omega arith, inl refl)

-- ---- needs
-- where nothing was asked before, all questions are new
all_new : (budget i : ℕ) (xs : List ℕ) → IsListing (IsQuestionAt one_reads_fact 0 i) (λ a b. a < b) xs → IsNeedOf (first_round budget) i (length xs)
all_new budget i xs listing = (xs, record { exactly = (λ x. ((λ h. ((listing.exactly x).0 h, λ none. none)), λ new. (listing.exactly x).1 new.0)); ascending = listing.ascending }, refl)

-- where all were, none is
none_new : (budget i : ℕ) → IsNeedOf (next_round budget) i 0
none_new budget i = ([], record { exactly = (λ x. ((λ h. absurd h), λ new. absurd (new.1 new.0))); ascending = tt }, refl)

first_is_of_two : (budget : ℕ) → IsCount one_reads_fact 0 2 → (first second : ℕ) × (first + second ≡ 2) × AreTwo (first_round budget) 0 first second
first_is_of_two budget (lists, listings, is) =
    let (x, y, split) = two_of lists listings.one_each in (
      length x,
      length y,
      omega (arith, is, ap (λ (ls : List (List ℕ)). sum_by (λ (l : List ℕ). length l) ls) split, sum_of_two (λ (l : List ℕ). length l) x y),
      record {
        two = refl;
        supplies = supplies;
        alone = alone;
        asked = refl;
        first_need = all_new budget 0 x (listings.listed 0 x (ap (λ (ls : List (List ℕ)). slice_get ls 0) split));
        second_need = all_new budget 1 y (listings.listed 1 y (ap (λ (ls : List (List ℕ)). slice_get ls 1) split));
      },
    )

pub example_is_of_two : ExampleIsOfTwo
example_is_of_two budget = (
  first_is_of_two budget questions_take_supplies.2,
  record { two = refl; supplies = supplies; alone = alone; asked = questions_take_supplies.2; first_need = none_new budget 0; second_need = none_new budget 1 },
)

-- ---- one question each
-- a question to the second context is the set of its one rule
is_rule : (x : ℕ) → IsQuestionAt one_reads_fact 0 1 x → x ≡ 1
unfolding rules_into
is_rule x (order, ordered, question) =
    let low : x < 2 = omega (arith, Within-le x (rules_into one_reads_fact 1) question.of_rules, such_that-lt 1 (λ k. goes_into 1 (slice_get one_reads_fact.bridges k))) in
    let some : ¬ (x ≡ 0) = (λ e. questions_take_supplies.0 (subst (λ (k : ℕ). IsQuestionAt one_reads_fact 0 1 k) e (order, ordered, question))) in
    omega (arith, low, some)

second_needs_one : (budget : ℕ) → IsNeedOf (first_round budget) 1 1
second_needs_one budget = (1 ∷ [], record { exactly = (λ x. (to x, λ new. inl (is_rule x new.0))); ascending = (tt, tt) }, refl)
  where
    to : (x : ℕ) → IsAmong x (1 ∷ []) → IsNewQuestion (first_round budget) 1 x
    to x (inl e) = (subst (λ (k : ℕ). IsQuestionAt one_reads_fact 0 1 k) (sym e) questions_take_supplies.1, λ none. none)
    to x (inr none) = absurd none

pub example_needs_one_each : ExampleNeedsOneEach
example_needs_one_each budget =
    let (first, second, sum, two) = first_is_of_two budget questions_take_supplies.2 in
    let last : second ≡ 1 = need_one (first_round budget) 1 second 1 two.second_need (second_needs_one budget) in
    let other : first ≡ 1 = omega (arith, sum, last) in
    subst (λ (k : ℕ). AreTwo (first_round budget) 0 k 1) other (subst (λ (k : ℕ). AreTwo (first_round budget) 0 first k) last two)
