-- The heads of the rules that go into a context: of more rules there are more, and of the same rules the same.
use Rattle.std.proofs.Common.{◌≡◌, ℕ, ◌+◌, suc, Bool, true, false, ◌&&◌, cond, List, [], ◌∷◌, Some, inl, inr, arith, refl, sym, ap, ◌∙◌, true≢false, eqb, slice_get}
use Rattle.std.proofs.lemmas.Bool.{and_parts, and_from, eqb-true}
use Rattle.mcs_sets.specs.Sets.{has, Within}
use Rattle.mcs_base.specs.Listings.{IsAmong}
use Rattle.mcs_system.specs.Plain.{Formula, Bridge, System}
use Rattle.mcs_system.specs.Systems.{heads_from, heads_into}

-- ---- heads
-- of more rules into the context there are more heads
heads_more_from : (k : ℕ) (bs : List Bridge) (i x y : ℕ) → ((j : ℕ) (b : Bridge) → slice_get bs j ≡ Some b → b.target ≡ i → has x (k + j) ≡ true → has y (k + j) ≡ true)
    → (f : Formula) → IsAmong f (heads_from k bs i x) → IsAmong f (heads_from k bs i y)
heads_more_from k [] i x y more f among = among
heads_more_from k (b ∷ bs) i x y more f among = at (has x k && eqb b.target i) refl (has y k && eqb b.target i) refl among
    (heads_more_from (k + 1) bs i x y (λ j c is own h. ap (has y) (omega arith) ∙ more (suc j) c is own (ap (has x) (omega arith) ∙ h)) f)
  where
    here : (has x k && eqb b.target i) ≡ true → (has y k && eqb b.target i) ≡ true
    here e = let (in_x, own) = and_parts (has x k) (eqb b.target i) e in
        and_from (has y k) (eqb b.target i) (ap (has y) (let z : k ≡ k + 0 = omega arith in z) ∙ more 0 b refl (eqb-true b.target i own) (ap (has x) (let z : k + 0 ≡ k = omega arith in z) ∙ in_x)) own

    at : (u : Bool) → (has x k && eqb b.target i) ≡ u → (v : Bool) → (has y k && eqb b.target i) ≡ v → IsAmong f (cond u (b.head ∷ heads_from (k + 1) bs i x) (heads_from (k + 1) bs i x))
        → (IsAmong f (heads_from (k + 1) bs i x) → IsAmong f (heads_from (k + 1) bs i y)) → IsAmong f (cond v (b.head ∷ heads_from (k + 1) bs i y) (heads_from (k + 1) bs i y))
    at true e true e' (inl same) rest = inl same
    at true e true e' (inr later) rest = inr (rest later)
    at true e false e' among rest = absurd (true≢false (sym (here e) ∙ e'))
    at false e true e' among rest = inr (rest among)
    at false e false e' among rest = rest among

-- x has no rule into context i that y lacks
abbrev pub HasMoreInto : System → ℕ → ℕ → ℕ → Type 0
HasMoreInto m i x y = (k : ℕ) (b : Bridge) → slice_get m.bridges k ≡ Some b → b.target ≡ i → has x k ≡ true → has y k ≡ true

pub heads_more : (m : System) (i x y : ℕ) → HasMoreInto m i x y → (f : Formula) → IsAmong f (heads_into m i x) → IsAmong f (heads_into m i y)
heads_more m i x y more f among = heads_more_from 0 m.bridges i x y (λ j b is own h. ap (has y) (omega arith) ∙ more j b is own (ap (has x) (omega arith) ∙ h)) f among

pub within_more : (m : System) (i x y : ℕ) → Within x y → HasMoreInto m i x y
within_more m i x y within k b is own h = within k h

-- of the same rules there are the same heads
heads_same_from : (k : ℕ) (bs : List Bridge) (i x y : ℕ) → ((j : ℕ) (b : Bridge) → slice_get bs j ≡ Some b → has x (k + j) ≡ has y (k + j)) → heads_from k bs i x ≡ heads_from k bs i y
heads_same_from k [] i x y same = refl
heads_same_from k (b ∷ bs) i x y same =
    let here : has x k ≡ has y k = ap (has x) (omega arith) ∙ same 0 b refl ∙ ap (has y) (omega arith) in
    let rest : heads_from (k + 1) bs i x ≡ heads_from (k + 1) bs i y = heads_same_from (k + 1) bs i x y (λ j c is. ap (has x) (omega arith) ∙ same (suc j) c is ∙ ap (has y) (omega arith)) in
    rw (here, rest) refl

pub heads_same : (m : System) (i x y : ℕ) → ((k : ℕ) (b : Bridge) → slice_get m.bridges k ≡ Some b → has x k ≡ has y k) → heads_into m i x ≡ heads_into m i y
heads_same m i x y same = heads_same_from 0 m.bridges i x y (λ j b is. ap (has x) (omega arith) ∙ same j b is ∙ ap (has y) (omega arith))
