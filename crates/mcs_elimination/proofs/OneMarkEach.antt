-- Marks of which no rule has both: what they lack of a weight is no more than what the rules lack of it, and a minimal diagnosis has such marks.
use Rattle.std.proofs.Common.{◌≡◌, ℕ, ◌+◌, ◌-◌, ◌*◌, ◌/◌, ◌<◌, ◌≤◌, zero, suc, Bool, true, false, ◌&&◌, cond, ltb, [], ◌∷◌, ◌++◌, take, length, slice_get, Some, refl, sym, ap, ◌∙◌, subst, arith, true≢false}
use Rattle.std.proofs.lemmas.Bool.Decides.{nat_tests}
use Rattle.std.proofs.lemmas.List.{take_all, take_more}
use Rattle.std.proofs.lemmas.List.Sums.{sum_by_push}
use Rattle.std.proofs.lemmas.Option.{get_or_from_slice_get}
use Rattle.std.specs.List.{sum_by}
use Rattle.mcs_sets.specs.Sets.{has, minus, single, union, such_that, members, Within, Meets}
use Rattle.mcs_sets.proofs.SetLemmas.{same_set, has-minus, has-single, has-such_that, such_that-more, such_that-none}
use Rattle.mcs_base.specs.Minimal.{IsMinimal}
use Rattle.mcs_base.specs.Pairs.{removed_of, forced_of}
use Rattle.mcs_base.proofs.Lists.{slice_get_below}
use Rattle.mcs_base.proofs.PairLemmas.{has-removed_of, has-forced_of}
use Rattle.mcs_base.proofs.Totals.{sum-none, sum-single, sum-union_apart}
use Rattle.mcs_system.specs.Plain.{Bridge, System}
use Rattle.mcs_system.specs.Systems.{all_rules, applicable, acting_at}
use Rattle.mcs_system.specs.Repairs.{is_kept, is_closed, allowed_marks, choice_marks, IsDiagnosis}
use Rattle.mcs_costs.specs.Costs.{mark_weight}
use Rattle.mcs_laws.proofs.Choices.{minimal_from_choice}
use Rattle.mcs_elimination.specs.Lightest.{HasOneMarkEach, lack_of, lacking}
use Rattle.mcs_system.proofs.MarkLemmas.{allowed-even, allowed-odd, allowed_known, has-all_marks, has-all_rules, has-kept_rules, has-closed_rules, has-marks_of, mark-even, mark-odd}

-- the sum over the members below one number more
sum-next : (f : ℕ → ℕ) (n : ℕ) (t : ℕ → Bool) → sum_by f (members (such_that (n + 1) t)) ≡ sum_by f (members (such_that n t)) + cond (t n) (f n) 0
sum-next f n t = ap (λ (s : ℕ). sum_by f (members s)) (such_that-more n t) ∙ at (t n)
  where
    apart : ¬ Meets (such_that n t) (single n)
    apart meets = let e = has-such_that n t meets.member in let s = has-single n meets.member in let a = meets.in_first in let b = meets.in_second in true≢false (grind (arith, nat_tests))

    at : (b : Bool) → sum_by f (members (cond b (union (such_that n t) (single n)) (such_that n t))) ≡ sum_by f (members (such_that n t)) + cond b (f n) 0
    at true = sum-union_apart f (such_that n t) (single n) apart ∙ ap (λ (k : ℕ). sum_by f (members (such_that n t)) + k) (sum-single f n)
    at false = omega arith

-- what a rule's one mark lacks of a weight
lacks_once : (weight : ℕ) (b : Bridge) (u v : Bool) → (u ≡ true → b.keep ≡ false) → (v ≡ true → b.closed ≡ false) → (u ≡ true → v ≡ true → ⊥) → cond u (weight - b.weight) 0 + cond v (weight - b.weight) 0 ≤ lack_of weight b
lacks_once weight b true true kept closed one = absurd (one refl refl)
lacks_once weight b true false kept closed one = rw (kept refl) (omega arith)
lacks_once weight b false true kept closed one = by b.keep
  where
    by : (k : Bool) → 0 + (weight - b.weight) ≤ cond (k && b.closed) 0 (weight - b.weight)
    by true = rw (closed refl) (omega arith)
    by false = omega arith
lacks_once weight b false false kept closed one = omega arith

module _ (m : System) (p weight : ℕ) (within : Within p (allowed_marks m)) (one : HasOneMarkEach p) where
  abbrev pub lack : ℕ → ℕ
  lack k = weight - mark_weight m k

  -- the marks of the rules before one
  abbrev before : ℕ → ℕ
  before n = such_that (2 * n) (has p)

  all_before : before (length m.bridges) ≡ p
  all_before = same_set _ _ (λ k. has-such_that (2 * length m.bridges) (has p) k ∙ at k (has p k) refl)
    where
      at : (k : ℕ) (b : Bool) → has p k ≡ b → (ltb k (2 * length m.bridges) && has p k) ≡ has p k
      at k true is = let e = has-all_marks m k in let known = allowed_known m p within k is in grind (arith, nat_tests)
      at k false is = grind (arith, nat_tests)

  module _ (n : ℕ) (b : Bridge) (at : slice_get m.bridges n ≡ Some b) where
    lacks_removed : lack (2 * n) ≡ weight - b.weight
    lacks_removed = let half : 2 * n / 2 ≡ n = omega arith in rw (half, at) refl

    lacks_forced : lack (2 * n + 1) ≡ weight - b.weight
    lacks_forced = let half : (2 * n + 1) / 2 ≡ n = omega arith in rw (half, at) refl

    not_kept : has p (2 * n) ≡ true → b.keep ≡ false
    not_kept is = let w = within (2 * n) is in let e1 = allowed-even m n in let e2 = has-kept_rules m n in let e3 = has-all_rules m n in let e4 = ap is_kept at in grind (arith, nat_tests)

    not_closed : has p (2 * n + 1) ≡ true → b.closed ≡ false
    not_closed is = let w = within (2 * n + 1) is in let e1 = allowed-odd m n in let e2 = has-closed_rules m n in let e3 = has-all_rules m n in let e4 = ap is_closed at in grind (arith, nat_tests)

    not_both : has p (2 * n) ≡ true → has p (2 * n + 1) ≡ true → ⊥
    not_both removed forced = one (record { member = n; in_first = has-removed_of p n ∙ removed; in_second = has-forced_of p n ∙ forced })

    next_before : sum_by lack (members (before (n + 1))) ≡ sum_by lack (members (before n)) + (cond (has p (2 * n)) (weight - b.weight) 0 + cond (has p (2 * n + 1)) (weight - b.weight) 0)
    next_before =
        let e : 2 * (n + 1) ≡ 2 * n + 1 + 1 = omega arith in
        let first = sum-next lack (2 * n) (has p) in
        let second = sum-next lack (2 * n + 1) (has p) in
        let a = rw lacks_removed at first in
        let c = rw lacks_forced at second in
        ap (λ (k : ℕ). sum_by lack (members (such_that k (has p)))) e ∙ omega (arith, a, c)

  lacks_before : (n : ℕ) → n ≤ length m.bridges → sum_by lack (members (before n)) ≤ sum_by (lack_of weight) (take n m.bridges)
  lacks_before zero low = let none : sum_by lack (members (before 0)) ≡ 0 = ap (λ (s : ℕ). sum_by lack (members s)) (such_that-none (has p)) ∙ sum-none lack in omega (arith, none)
  lacks_before (suc n) low =
      let less : n < length m.bridges = omega (arith, low) in
      let (b, at) = slice_get_below m.bridges n less in
      let more : take (n + 1) m.bridges ≡ take n m.bridges ++ b ∷ [] = take_more m.bridges n b less ∙ ap (λ (x : Bridge). take n m.bridges ++ x ∷ []) (get_or_from_slice_get m.bridges n b b at) in
      let rules = ap (sum_by (lack_of weight)) more ∙ sum_by_push (lack_of weight) (take n m.bridges) b in
      let rest = lacks_before n (omega (arith, low)) in
      let here = lacks_once weight b (has p (2 * n)) (has p (2 * n + 1)) (not_kept n b at) (not_closed n b at) (not_both n b at) in
      let next = next_before n b at in
      let e : suc n ≡ n + 1 = omega arith in
      rw e (omega (arith, rules, rest, here, next))

  pub lacks_no_more : sum_by lack (members p) ≤ lacking m weight
  lacks_no_more =
      let whole = lacks_before (length m.bridges) (omega arith) in
      let marks = ap (λ (s : ℕ). sum_by lack (members s)) all_before in
      let rules = ap (sum_by (lack_of weight)) (take_all (length m.bridges) m.bridges (omega arith)) in
      omega (arith, whole, marks, rules)

-- ---- minimal diagnoses
-- a rule that is applicable is removed, if it has a mark, and another one is forced
choice_one_each : (m : System) (σ x : ℕ) → HasOneMarkEach (choice_marks m σ x)
choice_one_each m σ x meets =
    let r = meets.member in
    let a : ℕ = applicable m σ in
    let removed = sym (has-removed_of (choice_marks m σ x) r) ∙ meets.in_first in
    let forced = sym (has-forced_of (choice_marks m σ x) r) ∙ meets.in_second in
    let e1 = has-marks_of m (minus a x) (minus x a) (2 * r) in let e2 = mark-even (minus a x) (minus x a) r in let e3 = has-minus a x r in
    let e4 = has-marks_of m (minus a x) (minus x a) (2 * r + 1) in let e5 = mark-odd (minus a x) (minus x a) r in let e6 = has-minus x a r in
    true≢false (grind (arith, nat_tests))

pub minimal_one_each : (m : System) (p : ℕ) → IsMinimal (IsDiagnosis m) p → HasOneMarkEach p
minimal_one_each m p minimal =
    let σ : ℕ = minimal.one.equilibrium in
    subst HasOneMarkEach (minimal_from_choice m p σ minimal minimal.one.balanced) (choice_one_each m σ (acting_at m σ (minus (all_rules m) (removed_of p)) (forced_of p)))
