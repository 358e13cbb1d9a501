-- How many questions there are.
use Rattle.std.proofs.Common.{◌≡◌, ℕ, ◌+◌, ◌<◌, ◌^◌, ◌≤◌, List, [], ◌∷◌, length, map, Some, slice_get, sym, ap, ◌∙◌, subst, inl, inr, arith}
use Rattle.std.proofs.lemmas.List.{length-map}
use Rattle.std.specs.List.{range_with_len, sum_by}
use Rattle.mcs_sets.specs.Sets.{size, single, union, members, Within}
use Rattle.mcs_base.specs.Listings.{IsAmong, AreApart, IsListing, IsInventory}
use Rattle.mcs_system.specs.Plain.{System}
use Rattle.mcs_system.specs.Imports.{rules_into, IsQuestionAfter, IsPossibleFrom}
use Rattle.mcs_system.specs.Levels.{IsQuestionAt, AreQuestions, AreSomeQuestions, HasQuestions, rule_set_count}
use Rattle.mcs_base.proofs.Among.{among_left, among_right}
use Rattle.mcs_base.proofs.Distinct.{distinct_fits, ascending_distinct}
use Rattle.mcs_base.proofs.ListingLemmas.{IsListing-same, listing_of_numbers}
use Rattle.mcs_base.proofs.Lists.{map_slice_get}
use Rattle.mcs_base.proofs.Numbered.{with_some, length-with_some, sum_by_bounded, sum_by_smaller}
use Rattle.mcs_sets.proofs.Lattice.{none-union}
use Rattle.mcs_import.specs.Laws.{QuestionsAreBounded, QuestionCountsGrow, CountsAgree, CountIsOne, JournalsAreCounted, CountsGrow, NeedIsOne}
use Rattle.mcs_import.specs.States.{GrowsByGuess}
use Rattle.mcs_import.proofs.StateLemmas.{grows_is}

-- ---- all that grows by some of the numbers
among_grown : (vs : List ℕ) (a s : ℕ) → GrowsByGuess vs a s → IsAmong s (with_some vs a)
among_grown [] a s e = inl (sym e)
among_grown (v ∷ vs) a s (inl h) = among_left s (with_some vs a) (with_some vs (union a (single v))) (among_grown vs a s h)
among_grown (v ∷ vs) a s (inr h) = among_right s (with_some vs a) (with_some vs (union a (single v))) (among_grown vs (union a (single v)) s h)

pub few_within : (whole : ℕ) (xs : List ℕ) → AreApart xs → ((x : ℕ) → IsAmong x xs → Within x whole) → length xs ≤ 2 ^ size whole
few_within whole xs apart inside =
    let few = distinct_fits xs (with_some (members whole) 0) apart (λ x among. among_grown (members whole) 0 x ((grows_is whole 0 x).1 (x, inside x among, sym (none-union x)))) in
    omega (arith, few, length-with_some (members whole) 0)

few_questions : (m : System) (level i : ℕ) (xs : List ℕ) → AreSomeQuestions m level i xs → length xs ≤ 2 ^ size (rules_into m i)
few_questions m level i xs some = few_within (rules_into m i) xs some.apart (λ x among. let (order, ordered, question) = some.questions x among in question.of_rules)

-- ---- over all contexts
pub questions_bounded : QuestionsAreBounded
questions_bounded m level n h =
    let bound = sum_by_bounded (λ (xs : List ℕ). length xs) (λ i. 2 ^ size (rules_into m i)) 0 h.lists (λ i xs is. let e : i ≡ 0 + i = omega arith in subst (λ (k : ℕ). length xs ≤ 2 ^ size (rules_into m k)) e (few_questions m level i xs (h.some i xs is))) in
    let all : sum_by (λ i. 2 ^ size (rules_into m i)) (range_with_len 0 (length h.lists)) ≡ rule_set_count m = ap (λ k. sum_by (λ i. 2 ^ size (rules_into m i)) (range_with_len 0 k)) h.one_each in
    omega (arith, bound, all, h.many)

-- ---- a higher level has no fewer
question_grows : (m : System) (level higher : ℕ) → level ≤ higher → (earlier : List ℕ) (poss more : ℕ → ℕ → Type 0) → ((j τ : ℕ) → poss j τ → more j τ) → (i x : ℕ) → IsQuestionAfter m level earlier poss i x → IsQuestionAfter m higher earlier more i x
question_grows m level higher less earlier poss more grows i x h =
    record { of_rules = h.of_rules; state = h.state; of_variables = h.of_variables; supplies = λ j among imported. grows j _ (h.supplies j among imported); allowed = h.allowed; near = omega (arith, less, h.near) }

possible_grows : (m : System) (level higher : ℕ) → level ≤ higher → (earlier : List ℕ) (j τ : ℕ) → IsPossibleFrom m level earlier j τ → IsPossibleFrom m higher earlier j τ
possible_grows m level higher less [] j τ none = absurd none
possible_grows m level higher less (c ∷ cs) j τ (inl (e, (x, question, part))) = inl (e, (x, question_grows m level higher less cs (IsPossibleFrom m level cs) (IsPossibleFrom m higher cs) (possible_grows m level higher less cs) j x question, part))
possible_grows m level higher less (c ∷ cs) j τ (inr (differ, possible)) = inr (differ, possible_grows m level higher less cs j τ possible)

asked_higher : (m : System) (level higher : ℕ) → level ≤ higher → (i x : ℕ) → IsQuestionAt m level i x → IsQuestionAt m higher i x
asked_higher m level higher less i x (order, ordered, question) = (order, ordered, question_grows m level higher less _ _ _ (possible_grows m level higher less _) i x question)

pub questions_grow : QuestionCountsGrow
questions_grow m level higher n less h = record {
  lists = h.lists;
  one_each = h.one_each;
  some = λ i xs is. record { questions = λ x among. asked_higher m level higher less i x ((h.some i xs is).questions x among); apart = (h.some i xs is).apart };
  many = h.many;
}

-- ---- the count
pub counts_agree : CountsAgree
counts_agree m level n k (yss, listings, is) = (to, from)
  where
    to : HasQuestions m level k → k ≤ n
    to h =
        let few = sum_by_smaller (λ (xs : List ℕ). length xs) h.lists yss (h.one_each ∙ sym listings.one_each) (λ i xs ys at_i at_i'. distinct_fits xs ys (h.some i xs at_i).apart (λ x among. ((listings.listed i ys at_i').exactly x).1 ((h.some i xs at_i).questions x among))) in
        omega (arith, few, h.many, is)

    from : k ≤ n → HasQuestions m level k
    from less = record {
      lists = yss;
      one_each = listings.one_each;
      some = λ i ys at_i. record { questions = λ x among. ((listings.listed i ys at_i).exactly x).0 among; apart = ascending_distinct ys (listings.listed i ys at_i).ascending };
      many = omega (arith, less, is);
    }

pub count_is_one : CountIsOne
count_is_one m level n k a b =
    let up : n ≤ k = (counts_agree m level k n b).0 ((counts_agree m level n n a).1 (omega arith)) in
    let down : k ≤ n = (counts_agree m level n k a).0 ((counts_agree m level k k b).1 (omega arith)) in
    omega (arith, up, down)

abbrev all_in_order : List (List ℕ) → List (List ℕ)
all_in_order journals = map (λ (xs : List ℕ). (listing_of_numbers xs).0) journals

questions_in_order : (m : System) (level : ℕ) (journals : List (List ℕ)) → length journals ≡ length m.contexts
    → ((i : ℕ) (xs : List ℕ) → slice_get journals i ≡ Some xs → IsInventory (IsQuestionAt m level i) xs) → AreQuestions m level (all_in_order journals)
questions_in_order m level journals one_each asked = record {
  one_each = length-map journals (λ (xs : List ℕ). (listing_of_numbers xs).0) ∙ one_each;
  listed = λ i ys is.
      let (xs, at, same) = map_slice_get (λ (xs : List ℕ). (listing_of_numbers xs).0) journals i ys is in
      subst (IsListing (IsQuestionAt m level i) (λ a b. a < b)) same (IsListing-same (λ (a b : ℕ). a < b) (λ x. IsAmong x xs) (IsQuestionAt m level i) (listing_of_numbers xs).0 (asked i xs at).exactly (listing_of_numbers xs).1);
}

pub journals_counted : JournalsAreCounted
journals_counted m level journals one_each asked =
    let lists = all_in_order journals in
    let listings = questions_in_order m level journals one_each asked in
    let most = sum_by_smaller (λ (xs : List ℕ). length xs) journals lists (one_each ∙ sym listings.one_each) (λ i xs ys at_i at_i'.
    distinct_fits xs ys (asked i xs at_i).apart (λ x among. ((listings.listed i ys at_i').exactly x).1 (((asked i xs at_i).exactly x).0 among))) in
    let least = sum_by_smaller (λ (xs : List ℕ). length xs) lists journals (listings.one_each ∙ sym one_each) (λ i ys xs at_i' at_i.
    distinct_fits ys xs (ascending_distinct ys (listings.listed i ys at_i').ascending) (λ x among. ((asked i xs at_i).exactly x).1 (((listings.listed i ys at_i').exactly x).0 among))) in
    (lists, listings, (let e : sum_by (λ (xs : List ℕ). length xs) journals ≡ sum_by (λ (xs : List ℕ). length xs) lists = omega (arith, most, least) in e))

pub counts_grow : CountsGrow
counts_grow m level higher n k less a b = (counts_agree m higher k n b).0 (questions_grow m level higher n less ((counts_agree m level n n a).1 (omega arith)))

pub need_is_one : NeedIsOne
need_is_one m n k (inl a) (inl b) = count_is_one m 0 n k a.1 b.1
need_is_one m n k (inl a) (inr b) = absurd (b.0 a.0)
need_is_one m n k (inr a) (inl b) = absurd (a.0 b.0)
need_is_one m n k (inr a) (inr b) = count_is_one m (length m.bridges) n k a.1 b.1
