-- How the one literal that clashes is found.
use Rattle.std.proofs.Common.{◌≡◌, ℕ, ◌+◌, ◌<◌, ◌≤◌, List, ◌⊎◌, inl, inr, sym, ap, ◌∙◌, subst, arith, ℤ, pos, neg_ℤ, unsigned_abs, length, drop, get_or, Option, Some, None, IfSome, MatchOption, is_some, true, false, w64, to_z, of_z, to_z-of_z}
use Rattle.std.specs.List.{AllByRecursion}
use Rattle.std.proofs.lemmas.List.{drop_more}
use Rattle.mcs_base.specs.Listings.{IsAmong}
use Rattle.mcs_base.proofs.ListingLemmas.{all_among}
use Rattle.mcs_base.proofs.Among.{drop_among, among_drop_more, none_among_drop, among_drop_first, among_at}
use Rattle.mcs_base.proofs.Ascending.{first_before}
use Rattle.mcs_base.proofs.Numbers.{unsigned_abs-neg_ℤ}
use Rattle.mcs_trace.specs.Clauses.{place, LiteralBefore, IsClause}
use Rattle.mcs_trace.specs.Resolution.{IsOnlyClash}
use Rattle.mcs_trace.proofs.OrderLemmas.{place-size, fits_literal, literal_at}

-- p clashes, and is before the first clause's literals from i on
pub record IsFound (first second : List ℤ) (i : ℕ) (p : ℤ) : Type 0 where
  pub in_first : IsAmong p first
  pub in_second : IsAmong (neg_ℤ p) second
  pub before : AllByRecursion (LiteralBefore p) (drop i first)

-- after the literals of the first clause below i: what is found, and the second clause before j is done with
pub record ClashSoFar (first second : List ℤ) (i j : ℕ) (o : Option ℤ) : Type 0 where
  pub bound : j ≤ length second
  pub near : (l : ℤ) → IsAmong l (drop i first) → IsAmong (neg_ℤ l) second → IsAmong (neg_ℤ l) (drop j second)
  pub found : IfSome o (IsFound first second i)
  pub all : (l : ℤ) → IsAmong l first → IsAmong (neg_ℤ l) second → (o ≡ Some l) ⊎ IsAmong l (drop i first)

pub clash-start : (first second : List ℤ) → ClashSoFar first second 0 0 None
clash-start first second = record { bound = omega arith; near = λ l h k. k; found = tt; all = λ l h k. inr h }

-- the smaller literals of the second clause are passed over
pub clash-skip : (first second : List ℤ) (i j j' size : ℕ) (found : Option ℤ) → IsClause first → i < length first → size ≡ unsigned_abs (to_z w64 (of_z w64 (get_or first i (pos 0)))) → j' ≤ length second
    → ((k : ℤ) → size ≤ unsigned_abs k → IsAmong k (drop j second) → IsAmong k (drop j' second))
    → ClashSoFar first second i j found → ClashSoFar first second i j' found
clash-skip first second i j j' size found is less e bound kept h = record {
  bound = bound;
  near = λ l in_first in_second. kept (neg_ℤ l) (large l in_first) (h.near l in_first in_second);
  found = h.found;
  all = h.all;
}
  where
    same : size ≡ unsigned_abs (get_or first i (pos 0))
    same = e ∙ ap unsigned_abs (to_z-of_z (fits_literal (get_or first i (pos 0)) (literal_at first i is less)))

    large : (l : ℤ) → IsAmong l (drop i first) → size ≤ unsigned_abs (neg_ℤ l)
    large l among = elim ((among_drop_more first i (pos 0) less l).0 among) [
      | inl e ↦ let e' : unsigned_abs l ≡ unsigned_abs (get_or first i (pos 0)) = ap unsigned_abs e in omega (arith, unsigned_abs-neg_ℤ l, same)
      | inr later ↦
          let after : place (get_or first i (pos 0)) < place l = all_among (LiteralBefore (get_or first i (pos 0))) (drop (i + 1) first) l (first_before LiteralBefore first i (pos 0) less is.1) later in
          omega (arith, same, unsigned_abs-neg_ℤ l, place-size l, place-size (get_or first i (pos 0)))
    ]

-- a literal whose negation is not there
pub clash-none : (first second : List ℤ) (i j : ℕ) (found : Option ℤ) → i < length first → ClashSoFar first second i j found
    → (IsAmong (neg_ℤ (get_or first i (pos 0))) (drop j second) → ⊥) → ClashSoFar first second (i + 1) j found
clash-none first second i j found less h not = record {
  bound = h.bound;
  near = λ l later. h.near l ((among_drop_more first i (pos 0) less l).1 (inr later));
  found = later_found found h.found;
  all = λ l in_first in_second. further l in_second (h.all l in_first in_second);
}
  where
    later_found : (o : Option ℤ) → IfSome o (IsFound first second i) → IfSome o (IsFound first second (i + 1))
    later_found None f = tt
    later_found (Some p) f = record { in_first = f.in_first; in_second = f.in_second; before = (subst (AllByRecursion (LiteralBefore p)) (drop_more first i (pos 0) less) f.before).1 }

    further : (l : ℤ) → IsAmong (neg_ℤ l) second → (found ≡ Some l) ⊎ IsAmong l (drop i first) → (found ≡ Some l) ⊎ IsAmong l (drop (i + 1) first)
    further l in_second (inl e) = inl e
    further l in_second (inr rest) = elim ((among_drop_more first i (pos 0) less l).0 rest) [
      | inl e ↦ absurd (not (subst (λ (k : ℤ). IsAmong (neg_ℤ k) (drop j second)) e (h.near l rest in_second)))
      | inr later ↦ inr later
    ]

-- the first literal whose negation is there
pub clash-one : (first second : List ℤ) (i j : ℕ) (found : Option ℤ) → IsClause first → i < length first → is_some found ≡ false → ClashSoFar first second i j found
    → IsAmong (neg_ℤ (get_or first i (pos 0))) (drop j second) → ClashSoFar first second (i + 1) j (Some (get_or first i (pos 0)))
clash-one first second i j (Some p) is less none h here = absurd (cc)
clash-one first second i j None is less none h here = record {
  bound = h.bound;
  near = λ l later. h.near l ((among_drop_more first i (pos 0) less l).1 (inr later));
  found = record { in_first = among_at first i (pos 0) less; in_second = drop_among second j (neg_ℤ (get_or first i (pos 0))) here; before = first_before LiteralBefore first i (pos 0) less is.1 };
  all = λ l in_first in_second. further l (h.all l in_first in_second);
}
  where
    further : (l : ℤ) → (None ≡ Some l) ⊎ IsAmong l (drop i first) → (Some (get_or first i (pos 0)) ≡ Some l) ⊎ IsAmong l (drop (i + 1) first)
    further l (inl e) = absurd (cc)
    further l (inr rest) = elim ((among_drop_more first i (pos 0) less l).0 rest) [
      | inl e ↦ inl (ap Some (sym e))
      | inr later ↦ inr later
    ]

-- a second one
pub clash-two : (first second : List ℤ) (i j : ℕ) (found : Option ℤ) → i < length first → is_some found ≡ true → ClashSoFar first second i j found
    → IsAmong (neg_ℤ (get_or first i (pos 0))) (drop j second) → (l : ℤ) → ¬ IsOnlyClash first second l
clash-two first second i j None less e h here l only = absurd (cc)
clash-two first second i j (Some p) less e h here l only =
    let x : ℤ = get_or first i (pos 0) in
    let at_p : p ≡ l = only.only p h.found.in_first h.found.in_second in
    let at_x : x ≡ l = only.only x (among_at first i (pos 0) less) (drop_among second j (neg_ℤ x) here) in
    let before : place p < place x = all_among (LiteralBefore p) (drop i first) x h.found.before (among_drop_first first i (pos 0) less) in
    let same : place p ≡ place x = ap place (at_p ∙ sym at_x) in
    absurd (omega arith)

pub clash-end : (first second : List ℤ) (i j : ℕ) (found : Option ℤ) → length first ≤ i → ClashSoFar first second i j found
    → MatchOption found ((l : ℤ) → ¬ IsOnlyClash first second l) (IsOnlyClash first second)
clash-end first second i j found past h = at found h.found (λ l in_first in_second. none_left l (h.all l in_first in_second))
  where
    none_left : (l : ℤ) → (found ≡ Some l) ⊎ IsAmong l (drop i first) → found ≡ Some l
    none_left l (inl e) = e
    none_left l (inr rest) = absurd (none_among_drop first i l past rest)

    at : (o : Option ℤ) → IfSome o (IsFound first second i) → ((l : ℤ) → IsAmong l first → IsAmong (neg_ℤ l) second → o ≡ Some l) → MatchOption o ((l : ℤ) → ¬ IsOnlyClash first second l) (IsOnlyClash first second)
    at None f all = λ l only. let e = all l only.in_first only.in_second in absurd (cc)
    at (Some p) f all = record { in_first = f.in_first; in_second = f.in_second; only = λ k in_first in_second. let e = all k in_first in_second in cc }
