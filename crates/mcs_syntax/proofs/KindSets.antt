-- Sets of kinds of tokens.
use Rattle.std.proofs.Common.{arith, ◌≡◌, ℕ, Bool, true, false, not, nat_eq, ◌&&◌, ◌⊎◌, inl, inr, refl, sym, ap, ◌∙◌, true≢false}
use Rattle.std.proofs.lemmas.Bool.Decides.{nat_tests}
use Rattle.mcs_sets.specs.Sets.{has, single, union, common, minus}
use Rattle.mcs_sets.proofs.SetLemmas.{has-empty, has-single, has-union, has-common, has-minus, same_set}
use Rattle.mcs_syntax.specs.declared.front.Front.{Front}
use Rattle.mcs_syntax.specs.Grammar.{given, before, apart}
use Rattle.mcs_syntax.proofs.Options.{and-parts, not-one, or-cases, left-or, right-or, both-and}

pub nat_eq-is : (a b : ℕ) → nat_eq a b ≡ true → a ≡ b
nat_eq-is a b e = grind (arith, e)

pub nat_eq-same : (a : ℕ) → nat_eq a a ≡ true
nat_eq-same a = grind arith

pub single-is : (k d : ℕ) → has (single k) d ≡ nat_eq k d
single-is k d = has-single k d ∙ grind (arith, nat_tests)

pub none-in : (k : ℕ) → has 0 k ≡ true → ⊥
none-in k e = true≢false (sym e ∙ has-empty k)

pub union-cases : (a b k : ℕ) → has (union a b) k ≡ true → (has a k ≡ true) ⊎ (has b k ≡ true)
union-cases a b k e = or-cases (has a k) (has b k) (sym (has-union a b k) ∙ e)

pub left-union : (a b k : ℕ) → has a k ≡ true → has (union a b) k ≡ true
left-union a b k e = has-union a b k ∙ left-or (has a k) (has b k) e

pub right-union : (a b k : ℕ) → has b k ≡ true → has (union a b) k ≡ true
right-union a b k e = has-union a b k ∙ right-or (has a k) (has b k) e

pub has-given : (b : Bool) (s k : ℕ) → has (given b s) k ≡ (b && has s k)
has-given true s k = refl
has-given false s k = has-empty k

pub given-parts : (b : Bool) (s k : ℕ) → has (given b s) k ≡ true → (b ≡ true) × (has s k ≡ true)
given-parts b s k e = and-parts b (has s k) (sym (has-given b s k) ∙ e)

pub both-given : (b : Bool) (s k : ℕ) → b ≡ true → has s k ≡ true → has (given b s) k ≡ true
both-given b s k i e = has-given b s k ∙ both-and b (has s k) i e

pub apart-is : (p q d : ℕ) → apart p q ≡ true → has p d ≡ true → has q d ≡ true → ⊥
apart-is p q d e a b = none-in d (ap (λ s. has s d) (sym (nat_eq-is (common p q) 0 e)) ∙ has-common p q d ∙ both-and (has p d) (has q d) a b)

pub apart-within : (p q p' q' : ℕ) → ((d : ℕ) → has p' d ≡ true → has p d ≡ true) → ((d : ℕ) → has q' d ≡ true → has q d ≡ true) → apart p q ≡ true → apart p' q' ≡ true
apart-within p q p' q' i j e = ap (λ s. nat_eq s 0) (same_set (common p' q') 0 (λ d. at d (has (common p' q') d) refl ∙ sym (has-empty d)))
  where
    at : (d : ℕ) (b : Bool) → has (common p' q') d ≡ b → has (common p' q') d ≡ false
    at d false is = is
    at d true is = let r = and-parts (has p' d) (has q' d) (sym (has-common p' q' d) ∙ is) in absurd (apart-is p q d e (i d r.0) (j d r.1))

pub minus-within : (t a k : ℕ) → nat_eq (minus t a) 0 ≡ true → has t k ≡ true → has a k ≡ true
minus-within t a k e i = at (has a k) refl
  where
    at : (b : Bool) → has a k ≡ b → has a k ≡ true
    at true is = is
    at false is = absurd (none-in k (ap (λ s. has s k) (sym (nat_eq-is (minus t a) 0 e)) ∙ has-minus t a k ∙ both-and (has t k) (not (has a k)) i (ap not is)))

pub within-minus : (t a : ℕ) → ((k : ℕ) → has t k ≡ true → has a k ≡ true) → nat_eq (minus t a) 0 ≡ true
within-minus t a i = ap (λ s. nat_eq s 0) (same_set (minus t a) 0 (λ k. at k (has (minus t a) k) refl ∙ sym (has-empty k)))
  where
    at : (k : ℕ) (b : Bool) → has (minus t a) k ≡ b → has (minus t a) k ≡ false
    at k false is = is
    at k true is = let w = and-parts (has t k) (not (has a k)) (sym (has-minus t a k) ∙ is) in absurd (not-one (has a k) w.1 (i k w.0))

-- what may come after more may come after less
pub before-grows : (p : Front) (s t : ℕ) → ((k : ℕ) → has s k ≡ true → has t k ≡ true) → (k : ℕ) → has (before p s) k ≡ true → has (before p t) k ≡ true
before-grows p s t i k e = elim (union-cases p.first _ k e) [
  | inl l ↦ left-union p.first _ k l
  | inr r ↦ let w = given-parts p.is_null s k r in right-union p.first _ k (both-given p.is_null t k w.0 (i k w.1))
]
