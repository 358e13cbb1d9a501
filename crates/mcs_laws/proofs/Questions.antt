-- Questions of growing levels, and the questions that a choice asks.
use Rattle.std.proofs.Common.{◌≡◌, ℕ, ◌+◌, ◌*◌, ◌<◌, ◌≤◌, Bool, true, false, ◌&&◌, eqb, ltb, suc, List, [], ◌∷◌, length, reverse, Some, refl, sym, ap, ◌∙◌, subst, inl, inr, ◌⊎◌, arith, slice_get, zero, ◌-◌}
use Rattle.std.proofs.lemmas.Bool.{and_parts}
use Rattle.std.proofs.lemmas.Bool.Decides.{nat_tests}
use mathlib.Core.List.{reverse_aux}
use Rattle.mcs_sets.specs.Sets.{has, size, common, minus, Within}
use Rattle.mcs_sets.proofs.SetLemmas.{has-common, has-minus, has-such_that, size-le}
use Rattle.mcs_base.specs.Listings.{IsAmong}
use Rattle.mcs_base.proofs.ListingLemmas.{all_among}
use Rattle.mcs_system.specs.Plain.{Formula, Bridge, System}
use Rattle.mcs_system.specs.Logic.{Accepts, with_heads}
use Rattle.mcs_system.specs.Systems.{all_rules, variables_of, applicable, heads_from, heads_into, IsAcceptedPart}
use Rattle.mcs_system.specs.Faults.{IsValid}
use Rattle.mcs_system.specs.Repairs.{mark_of, IsChoice, choice_marks}
use Rattle.mcs_system.specs.Imports.{before_in, rules_into, marks_at, IsQuestionAfter, IsPossibleFrom, IsQuestion}
use Rattle.mcs_system.proofs.MarkLemmas.{has-all_rules, has-marks_of, mark-even, mark-odd, by_parity, marks_small, marks_known}
use Rattle.mcs_base.proofs.Lists.{slice_get_below}
use Rattle.mcs_system.proofs.ValidLemmas.{target_in_range}
use Rattle.mcs_system.proofs.VariableLemmas.{has-rules_into}
use Rattle.mcs_laws.specs.Laws.{QuestionsGrow, ChoicesAskQuestions, ChoicesHaveRows, MarksAreUnited, MarksAreApart}
use Rattle.mcs_system.proofs.ContextSets.{before_among}
use Rattle.mcs_system.specs.Levels.{IsQuestionAt}

question_grows : (m : System) (level : ℕ) (cs : List ℕ) (P Q : ℕ → ℕ → Type 0) (i x : ℕ) → ((j τ : ℕ) → P j τ → Q j τ) → IsQuestionAfter m level cs P i x → IsQuestionAfter m (level + 1) cs Q i x
question_grows m level cs P Q i x grows h = record { of_rules = h.of_rules; state = h.state; of_variables = h.of_variables; supplies = λ j among imported. grows j _ (h.supplies j among imported); allowed = h.allowed; near = (let n = h.near in omega arith) }

possible_grows : (m : System) (level : ℕ) (cs : List ℕ) (j τ : ℕ) → IsPossibleFrom m level cs j τ → IsPossibleFrom m (level + 1) cs j τ
possible_grows m level [] j τ h = absurd h
possible_grows m level (c ∷ cs) j τ (inl (e, (x, question, part))) = inl (e, (x, question_grows m level cs _ _ j x (possible_grows m level cs) question, part))
possible_grows m level (c ∷ cs) j τ (inr (other, h)) = inr (other, possible_grows m level cs j τ h)

pub questions_grow : QuestionsGrow
questions_grow m order level i x h = question_grows m level (reverse (before_in order i)) _ _ i x (possible_grows m level (reverse (before_in order i))) h

pub question_after : (m : System) (order : List ℕ) (level n i x : ℕ) → IsQuestion m order level i x → IsQuestion m order (level + n) i x
question_after m order level zero i x q = let e : level + 0 ≡ level = omega arith in subst (λ k. IsQuestion m order k i x) (sym e) q
question_after m order level (suc n) i x q =
    let e : level + n + 1 ≡ level + suc n = omega arith in
    subst (λ k. IsQuestion m order k i x) e (questions_grow m order (level + n) i x (question_after m order level n i x q))

pub question_higher : (m : System) (level higher i x : ℕ) → level ≤ higher → IsQuestionAt m level i x → IsQuestionAt m higher i x
question_higher m level higher i x less (order, ordered, q) =
    let e : level + (higher - level) ≡ higher = omega (arith, less) in
    (order, ordered, subst (λ k. IsQuestion m order k i x) e (question_after m order level (higher - level) i x q))

-- ---- the heads into a context come from the rules into it
heads-alike : (k : ℕ) (bs : List Bridge) (i x y : ℕ) → ((j : ℕ) (b : Bridge) → slice_get bs j ≡ Some b → (has x (k + j) && eqb b.target i) ≡ (has y (k + j) && eqb b.target i)) → heads_from k bs i x ≡ heads_from k bs i y
heads-alike k [] i x y same = refl
heads-alike k (b ∷ bs) i x y same =
    let e : k ≡ k + 0 = omega arith in
    let here : (has x k && eqb b.target i) ≡ (has y k && eqb b.target i) = ap (λ n. has x n && eqb b.target i) e ∙ same 0 b refl ∙ ap (λ n. has y n && eqb b.target i) (sym e) in
    let rest : heads_from (k + 1) bs i x ≡ heads_from (k + 1) bs i y = heads-alike (k + 1) bs i x y (λ j c is. let e' : k + 1 + j ≡ k + suc j = omega arith in ap (λ n. has x n && eqb c.target i) e' ∙ same (suc j) c is ∙ ap (λ n. has y n && eqb c.target i) (sym e')) in
    rw (here, rest) refl

pub heads-own : (m : System) (i x : ℕ) → heads_into m i x ≡ heads_into m i (common x (rules_into m i))
heads-own m i x = heads-alike 0 m.bridges i _ _ (λ j b is. let e : 0 + j ≡ j = omega arith in let r = has-rules_into m i j b is in let c = has-common x (rules_into m i) j in rw e (same j b r c))
  where
    same : (j : ℕ) (b : Bridge) → has (rules_into m i) j ≡ eqb b.target i → has (common x (rules_into m i)) j ≡ (has x j && has (rules_into m i) j) → (has x j && eqb b.target i) ≡ (has (common x (rules_into m i)) j && eqb b.target i)
    same j b r c = grind (arith, nat_tests)

own_part : (m : System) (i x τ : ℕ) → IsAcceptedPart m i x τ → IsAcceptedPart m i (common x (rules_into m i)) τ
own_part m i x τ h = let (c, is, accepts) = h.accepted in record { belief = h.belief; accepted = (c, is, subst (λ (hs : List Formula). Accepts (with_heads c.kb hs) h.belief) (heads-own m i x) accepts); part = h.part }

-- the marks at a context are among those of the choice
pub marks_within : (m : System) (i σ x : ℕ) → Within (marks_at m i σ (common x (rules_into m i))) (choice_marks m σ x)
marks_within m i σ x k is = let (r, half) = by_parity k in elim half [ inl e ↦ ap (has all) e ∙ even r (ap (has own) (sym e) ∙ is) | inr e ↦ ap (has all) e ∙ odd r (ap (has own) (sym e) ∙ is) ]
  where
    own : ℕ
    own = marks_at m i σ (common x (rules_into m i))

    all : ℕ
    all = choice_marks m σ x

    a : ℕ
    a = common (applicable m σ) (rules_into m i)

    y : ℕ
    y = common x (rules_into m i)

    even : (r : ℕ) → has own (2 * r) ≡ true → has all (2 * r) ≡ true
    even r is = let e1 = has-marks_of m (minus a y) (minus y a) (2 * r) in let e2 = mark-even (minus a y) (minus y a) r in let e3 = has-minus a y r in let e4 = has-common (applicable m σ) (rules_into m i) r in
        let e5 = has-common x (rules_into m i) r in let f1 = has-marks_of m (minus (applicable m σ) x) (minus x (applicable m σ)) (2 * r) in let f2 = mark-even (minus (applicable m σ) x) (minus x (applicable m σ)) r in
        let f3 = has-minus (applicable m σ) x r in grind (arith, nat_tests)

    odd : (r : ℕ) → has own (2 * r + 1) ≡ true → has all (2 * r + 1) ≡ true
    odd r is = let e1 = has-marks_of m (minus a y) (minus y a) (2 * r + 1) in let e2 = mark-odd (minus a y) (minus y a) r in let e3 = has-minus y a r in let e4 = has-common (applicable m σ) (rules_into m i) r in
        let e5 = has-common x (rules_into m i) r in let f1 = has-marks_of m (minus (applicable m σ) x) (minus x (applicable m σ)) (2 * r + 1) in let f2 = mark-odd (minus (applicable m σ) x) (minus x (applicable m σ)) r in
        let f3 = has-minus x (applicable m σ) r in grind (arith, nat_tests)

-- ---- a choice asks questions
module _ (m : System) (level σ x : ℕ) (choice : IsChoice m σ x) (few : size (choice_marks m σ x) ≤ level) where
  near : (i : ℕ) → size (marks_at m i σ (common x (rules_into m i))) ≤ level
  near i = omega (arith, few, size-le _ (choice_marks m σ x) (2 * length m.bridges) (marks_small m _ (marks_known m _ _)) (marks_within m i σ x))

  question : (cs : List ℕ) (i : ℕ) → ((j : ℕ) → IsAmong j cs → IsPossibleFrom m level cs j (common σ (variables_of m j))) → IsQuestionAfter m level cs (IsPossibleFrom m level cs) i (common x (rules_into m i))
  question cs i possible = record {
    of_rules = λ k is. let e = has-common x (rules_into m i) k in grind (arith, nat_tests);
    state = σ;
    of_variables = choice.of_variables;
    supplies = λ j among imported. possible j among;
    allowed = λ k is. choice.allowed k (marks_within m i σ x k is);
    near = near i;
  }

  possible : (cs : List ℕ) → ((c : ℕ) → IsAmong c cs → c < length m.contexts) → (j : ℕ) → IsAmong j cs → IsPossibleFrom m level cs j (common σ (variables_of m j))
  possible [] known j among = absurd among
  possible (c ∷ cs) known j among = at (eqb c j) refl among (possible cs (λ d here. known d (inr here)))
    where
      at : (v : Bool) → eqb c j ≡ v → (j ≡ c) ⊎ IsAmong j cs → ((j : ℕ) → IsAmong j cs → IsPossibleFrom m level cs j (common σ (variables_of m j))) → IsPossibleFrom m level (c ∷ cs) j (common σ (variables_of m j))
      at true e among rest = let same : c ≡ j = grind (arith, nat_tests) in
          inl (same, (common x (rules_into m j), question cs j rest, own_part m j x _ (choice.accepted j (let less = known c (inl refl) in omega arith))))
      at false e (inl same) rest = absurd (grind (arith, nat_tests))
      at false e (inr among) rest = inr ((λ same. grind (arith, nat_tests)), rest j among)

reverse_among : (c : ℕ) (xs ys : List ℕ) → IsAmong c (reverse_aux xs ys) → IsAmong c xs ⊎ IsAmong c ys
reverse_among c [] ys h = inr h
reverse_among c (x ∷ xs) ys h = elim (reverse_among c xs (x ∷ ys) h) [
  | inl here ↦ inl (inr here)
  | inr later ↦ elim later [ inl e ↦ inl (inl e) | inr rest ↦ inr rest ]
]

pub choices_ask : ChoicesAskQuestions
choices_ask m order level σ x i known choice few = question m level σ x choice few (reverse (before_in order i)) i (possible m level σ x choice few (reverse (before_in order i)) in_range)
  where
    in_range : (c : ℕ) → IsAmong c (reverse (before_in order i)) → c < length m.contexts
    in_range c h = elim (reverse_among c (before_in order i) [] h) [
      | inl here ↦ all_among (λ d. d < length m.contexts) order c known (before_among c i order here)
      | inr nothing ↦ absurd nothing
    ]

-- ---- and has a row of each context
pub choices_have_rows : ChoicesHaveRows
choices_have_rows m order level σ x i known choice few less = record {
  whole = σ;
  of_variables = choice.of_variables;
  rules = common x (rules_into m i);
  of_rules = λ k is. (let e = has-common x (rules_into m i) k in grind (arith, nat_tests));
  accepted = own_part m i x _ (choice.accepted i less);
  supplies = λ j among imported. (
    common x (rules_into m j),
    choices_ask m order level σ x j known choice few,
    own_part m j x _ (choice.accepted j (all_among (λ d. d < length m.contexts) order j known (before_among j i order among))),
  );
  state_is = refl;
  marks_is = refl;
  allowed = λ k is. choice.allowed k (marks_within m i σ x k is);
  few = near m level σ x choice few i;
}

-- ---- the marks of a choice are those at the contexts
marked : (m : System) (i r : ℕ) (σ x : ℕ) → has (rules_into m i) r ≡ true → (has (choice_marks m σ x) (2 * r) ≡ has (marks_at m i σ (common x (rules_into m i))) (2 * r)) × (has (choice_marks m σ x) (2 * r + 1) ≡ has (marks_at m i σ (common x (rules_into m i))) (2 * r + 1))
marked m i r σ x own = (
  has-marks_of m _ _ (2 * r) ∙ ap (λ b. ltb (2 * r) (2 * length m.bridges) && b) even ∙ sym (has-marks_of m _ _ (2 * r)),
  has-marks_of m _ _ (2 * r + 1) ∙ ap (λ b. ltb (2 * r + 1) (2 * length m.bridges) && b) odd ∙ sym (has-marks_of m _ _ (2 * r + 1)),
)
  where
    a : ℕ
    a = common (applicable m σ) (rules_into m i)

    y : ℕ
    y = common x (rules_into m i)

    even : mark_of (minus (applicable m σ) x) (minus x (applicable m σ)) (2 * r) ≡ mark_of (minus a y) (minus y a) (2 * r)
    even = mark-even _ _ r ∙ (let e1 = has-minus (applicable m σ) x r in let e2 = has-minus a y r in let e3 = has-common (applicable m σ) (rules_into m i) r in let e4 = has-common x (rules_into m i) r in
        rw (e1, e2, e3, e4, own) (grind (arith, nat_tests))) ∙ sym (mark-even _ _ r)

    odd : mark_of (minus (applicable m σ) x) (minus x (applicable m σ)) (2 * r + 1) ≡ mark_of (minus a y) (minus y a) (2 * r + 1)
    odd = mark-odd _ _ r ∙ (let e1 = has-minus x (applicable m σ) r in let e2 = has-minus y a r in let e3 = has-common (applicable m σ) (rules_into m i) r in let e4 = has-common x (rules_into m i) r in
        rw (e1, e2, e3, e4, own) (grind (arith, nat_tests))) ∙ sym (mark-odd _ _ r)

-- a rule goes into a context
target_of : (m : System) → IsValid m → (r : ℕ) → has (all_rules m) r ≡ true → (i : ℕ) × (i < length m.contexts) × (has (rules_into m i) r ≡ true)
target_of m valid r known =
    let less : r < length m.bridges = (let e = has-all_rules m r in grind (arith, nat_tests)) in
    let (b, is) = slice_get_below m.bridges r less in
    (b.target, target_in_range m valid r b is, has-rules_into m b.target r b is ∙ grind (arith, nat_tests))

pub marks_are_united : MarksAreUnited
marks_are_united m σ x k valid of_rules = (to, λ (i, less, is). marks_within m i σ x k is)
  where
    rule_known : (r : ℕ) → has (choice_marks m σ x) (2 * r) ≡ true → has (all_rules m) r ≡ true
    rule_known r is = let e1 = has-marks_of m (minus (applicable m σ) x) (minus x (applicable m σ)) (2 * r) in let e2 = has-all_rules m r in grind (arith, nat_tests)

    rule_known' : (r : ℕ) → has (choice_marks m σ x) (2 * r + 1) ≡ true → has (all_rules m) r ≡ true
    rule_known' r is = let e1 = has-marks_of m (minus (applicable m σ) x) (minus x (applicable m σ)) (2 * r + 1) in let e2 = has-all_rules m r in grind (arith, nat_tests)

    to : has (choice_marks m σ x) k ≡ true → (i : ℕ) × (i < length m.contexts) × (has (marks_at m i σ (common x (rules_into m i))) k ≡ true)
    to is = let (r, half) = by_parity k in elim half [
      | inl e ↦ let is' = ap (has (choice_marks m σ x)) (sym e) ∙ is in let (i, less, own) = target_of m valid r (rule_known r is') in
          (i, less, ap (has (marks_at m i σ (common x (rules_into m i)))) e ∙ sym (marked m i r σ x own).0 ∙ is')
      | inr e ↦ let is' = ap (has (choice_marks m σ x)) (sym e) ∙ is in let (i, less, own) = target_of m valid r (rule_known' r is') in
          (i, less, ap (has (marks_at m i σ (common x (rules_into m i)))) e ∙ sym (marked m i r σ x own).1 ∙ is')
    ]

-- a mark at a context is of a rule into it
mark_own : (m : System) (i σ x r : ℕ) → Within x (rules_into m i) → (has (marks_at m i σ x) (2 * r) ≡ true → has (rules_into m i) r ≡ true) × (has (marks_at m i σ x) (2 * r + 1) ≡ true → has (rules_into m i) r ≡ true)
mark_own m i σ x r of_rules = (
  λ is. let e1 = has-marks_of m (minus (common (applicable m σ) (rules_into m i)) x) (minus x (common (applicable m σ) (rules_into m i))) (2 * r) in
      let e2 = mark-even (minus (common (applicable m σ) (rules_into m i)) x) (minus x (common (applicable m σ) (rules_into m i))) r in
      let e3 = has-minus (common (applicable m σ) (rules_into m i)) x r in let e4 = has-common (applicable m σ) (rules_into m i) r in grind (arith, nat_tests),
  λ is. let e1 = has-marks_of m (minus (common (applicable m σ) (rules_into m i)) x) (minus x (common (applicable m σ) (rules_into m i))) (2 * r + 1) in
      let e2 = mark-odd (minus (common (applicable m σ) (rules_into m i)) x) (minus x (common (applicable m σ) (rules_into m i))) r in
      let e3 = has-minus x (common (applicable m σ) (rules_into m i)) r in let w = of_rules r in grind (arith, nat_tests),
)

rule_in_range : (m : System) (i r : ℕ) → has (rules_into m i) r ≡ true → r < length m.bridges
unfolding rules_into
rule_in_range m i r is = let known : ltb r (length m.bridges) ≡ true = (and_parts _ _ (sym (has-such_that (length m.bridges) _ r) ∙ is)).0 in grind (arith, nat_tests)

one_target : (m : System) (i j r : ℕ) → has (rules_into m i) r ≡ true → has (rules_into m j) r ≡ true → i ≡ j
one_target m i j r in_i in_j =
    let less : r < length m.bridges = rule_in_range m i r in_i in
    let (b, is) = slice_get_below m.bridges r less in
    let a = has-rules_into m i r b is in let c = has-rules_into m j r b is in grind (arith, nat_tests)

pub marks_are_apart : MarksAreApart
marks_are_apart m σ τ x y i j within_x within_y differ both = let (r, half) = by_parity both.member in elim half [
  | inl e ↦ differ (one_target m i j r ((mark_own m i σ x r within_x).0 (ap (has (marks_at m i σ x)) (sym e) ∙ both.in_first)) ((mark_own m j τ y r within_y).0 (ap (has (marks_at m j τ y)) (sym e) ∙ both.in_second)))
  | inr e ↦ differ (one_target m i j r ((mark_own m i σ x r within_x).1 (ap (has (marks_at m i σ x)) (sym e) ∙ both.in_first)) ((mark_own m j τ y r within_y).1 (ap (has (marks_at m j τ y)) (sym e) ∙ both.in_second)))
]
