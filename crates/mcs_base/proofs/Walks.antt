-- A walk over numbers, one step further at each level: what was reached, and the front, from which it goes on.
use Rattle.std.proofs.Common.{◌≡◌, ℕ, ◌+◌, ◌<◌, ◌≤◌, zero, suc, List, [], ◌++◌, sym, subst, inl, inr, ◌⊎◌, ◌↔◌, arith}
use Rattle.mcs_base.specs.Listings.{IsAmong, IsListing}
use Rattle.mcs_base.proofs.Among.{among_left, among_right, among_either, cases_among}
use Rattle.mcs_base.proofs.ListingLemmas.{IsListing-same}

-- what is near at a level: more at a higher one, all that is a step away, and nothing else
pub record AreLevels (Near Step : ℕ → ℕ → Type 0) : Type 0 where
  pub more : (n m x : ℕ) → n ≤ m → Near n x → Near m x
  pub onward : (n m y x : ℕ) → n < m → Near n y → Step y x → Near m x
  pub back : (n x : ℕ) → Near (suc n) x → Near n x ⊎ ((y : ℕ) × Near n y × Step y x)

-- all that is near at the level was reached, and each step from it that is not from the front ends there
pub record IsReached (Near Step : ℕ → ℕ → Type 0) (n : ℕ) (reached front : List ℕ) : Type 0 where
  pub listing : IsListing (Near n) (λ a b. a < b) reached
  pub at_front : (y : ℕ) → IsAmong y front → IsAmong y reached
  pub closed : (y x : ℕ) → IsAmong y reached → Step y x → IsAmong x reached ⊎ IsAmong y front

-- all is at the front
pub walk_begins : (Near Step : ℕ → ℕ → Type 0) (reached front : List ℕ) → IsListing (Near 0) (λ a b. a < b) reached → front ≡ reached → IsReached Near Step 0 reached front
walk_begins Near Step reached front listing is = record {
  listing = listing;
  at_front = λ y h. subst (λ (ys : List ℕ). IsAmong y ys) is h;
  closed = λ y x h step. inr (subst (λ (ys : List ℕ). IsAmong y ys) (sym is) h);
}

-- what one step comes to from the front, and was not reached, is the next front
module _ (Near Step : ℕ → ℕ → Type 0) (levels : AreLevels Near Step) (n : ℕ) (reached front next : List ℕ) (walk : IsReached Near Step n reached front)
    (found : (x : ℕ) → IsAmong x next ↔ ((y : ℕ) × IsAmong y front × Step y x × (¬ IsAmong x reached))) where
  stepped : (y x : ℕ) → IsAmong y reached → Step y x → IsAmong x reached ⊎ IsAmong x next
  stepped y x here step = elim (walk.closed y x here step) [
    | inl old ↦ inl old
    | inr last ↦ elim (cases_among x reached) [ inl old ↦ inl old | inr new ↦ inr ((found x).1 (y, last, step, new)) ]
  ]

  stepped_to : (y x : ℕ) → IsAmong y reached → Step y x → IsAmong x (reached ++ next)
  stepped_to y x here step = elim (stepped y x here step) [ inl old ↦ among_left x reached next old | inr new ↦ among_right x reached next new ]

  pub walk_goes_on : (m : ℕ) → m ≡ n + 1 → (all : List ℕ) → IsListing (λ x. IsAmong x (reached ++ next)) (λ a b. a < b) all → IsReached Near Step m all next
  walk_goes_on m is all listing = record {
    listing = IsListing-same (λ (a b : ℕ). a < b) (λ x. IsAmong x (reached ++ next)) (Near m) all (λ x. (to x, from x)) listing;
    at_front = λ y h. (listing.exactly y).1 (among_right y reached next h);
    closed = λ y x h step. elim (among_either y reached next ((listing.exactly y).0 h)) [
      | inl old ↦ inl ((listing.exactly x).1 (stepped_to y x old step))
      | inr new ↦ inr new
    ];
  }
    where
      to : (x : ℕ) → IsAmong x (reached ++ next) → Near m x
      to x h = elim (among_either x reached next h) [
        | inl old ↦ levels.more n m x (omega arith) ((walk.listing.exactly x).0 old)
        | inr new ↦ let (y, last, step, fresh) = (found x).0 new in levels.onward n m y x (omega arith) ((walk.listing.exactly y).0 (walk.at_front y last)) step
      ]

      from : (x : ℕ) → Near m x → IsAmong x (reached ++ next)
      from x h = let e : m ≡ suc n = omega arith in elim (levels.back n x (subst (λ (k : ℕ). Near k x) e h)) [
        | inl near ↦ among_left x reached next ((walk.listing.exactly x).1 near)
        | inr (y, near, step) ↦ stepped_to y x ((walk.listing.exactly y).1 near) step
      ]

  -- where the next front is empty, all that is near at any level was reached
  pub walk_ends : next ≡ [] → (m : ℕ) → n ≤ m → IsListing (Near m) (λ a b. a < b) reached
  walk_ends none m less = IsListing-same (λ (a b : ℕ). a < b) (Near n) (Near m) reached (λ x. (levels.more n m x less, λ h. (walk.listing.exactly x).0 (all m x h))) walk.listing
    where
      all : (k x : ℕ) → Near k x → IsAmong x reached
      all zero x h = (walk.listing.exactly x).1 (levels.more 0 n x (omega arith) h)
      all (suc k) x h = elim (levels.back k x h) [
        | inl near ↦ all k x near
        | inr (y, near, step) ↦ elim (stepped y x (all k y near) step) [ inl old ↦ old | inr new ↦ absurd (subst (λ (ys : List ℕ). IsAmong x ys) none new) ]
      ]
