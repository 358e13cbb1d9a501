-- All sets of some rules, each at its place, and what a change of one rule is at the places.
use Rattle.std.proofs.Common.{◌≡◌, ℕ, ◌+◌, ◌*◌, ◌^◌, ◌<◌, ◌-◌, suc, Bool, true, false, cond, not, eqb, ◌&&◌, ◌||◌, List, [], ◌∷◌, ◌++◌, length, map, get_or, refl, sym, ap, ◌∙◌, subst, inl, inr, arith, true≢false, length-append, append_assoc, append-nil}
use Rattle.std.proofs.Math.Nat.{two-pow-succ}
use Rattle.std.proofs.lemmas.Bool.{cases_lt, cases_eq, cases_Bool}
use Rattle.std.proofs.lemmas.Bool.Decides.{nat_tests}
use Rattle.std.proofs.lemmas.List.{length-map, get_or_append_left, get_or-append_right, get_or_push, get_or-map}
use Rattle.std.specs.Int.Bits.{or_shifted_r, bit_or}
use Rattle.mcs_sets.specs.Sets.{has, single, union, minus}
use Rattle.mcs_sets.proofs.SetLemmas.{same_set, has-single, has-union, has-minus, has_above}
use Rattle.mcs_sets.proofs.Lattice.{in_minus, in_with, minus-union_back, single_within, no_member_of_none, none_from_no_member, below_from_members, minus-lt, with-lt}
use Rattle.mcs_base.specs.Listings.{IsAmong, IsAscending}
use Rattle.mcs_base.proofs.Among.{among_left, among_right, among_either, among_push, among_at, place_among, among_map, map_among, cases_among}
use Rattle.mcs_base.proofs.Each.{all_among}
use Rattle.mcs_base.proofs.Ascending.{ascending_append, ascending_as, ascending_map}
use Rattle.mcs_base.proofs.ListingLemmas.{ascending_at}
use Rattle.mcs_base.proofs.NumberCases.{cases_order}
use Rattle.mcs_import.specs.Fewest.{AreSetsOf, toggled}

-- ---- one number more in a set
union_above : (x r : ℕ) → x < 2 ^ r → union x (single r) ≡ 2 ^ r + x
unfolding union single
union_above x r less =
    let e : 1 * 2 ^ r ≡ 2 ^ r = omega arith in
    ap (bit_or x) (sym e) ∙ or_shifted_r 1 r x less ∙ ap (λ (n : ℕ). n + x) e

has_with_itself : (s r : ℕ) → has (union s (single r)) r ≡ true
has_with_itself s r = (in_with s r r).1 (inr refl)

has_with_other : (s r k : ℕ) → ¬ (k ≡ r) → has (union s (single r)) k ≡ has s k
has_with_other s r k differ = let e : eqb k r ≡ false = grind (arith, nat_tests) in let e1 = has-union s (single r) k in let e2 = has-single r k in grind arith

has-toggled : (s k j : ℕ) → has (toggled s k) j ≡ cond (eqb j k) (not (has s k)) (has s j)
has-toggled s k j = at (has s k)
  where
    at : (b : Bool) → has (cond b (minus s (single k)) (union s (single k))) j ≡ cond (eqb j k) (not b) (has s j)
    at true = has-minus s (single k) j ∙ ap (λ (b : Bool). has s j && not b) (has-single k j) ∙ out (has s j) (eqb j k)
      where
        out : (a b : Bool) → (a && not b) ≡ cond b false a
        out true true = refl
        out true false = refl
        out false true = refl
        out false false = refl
    at false = has-union s (single k) j ∙ ap (λ (b : Bool). has s j || b) (has-single k j) ∙ within (has s j) (eqb j k)
      where
        within : (a b : Bool) → (a || b) ≡ cond b true a
        within true true = refl
        within true false = refl
        within false true = refl
        within false false = refl

-- ---- all sets of no rules, and of one rule more
pub sets_of_none : AreSetsOf [] (0 ∷ [])
sets_of_none = record {
  long = omega arith;
  listing = record {
    exactly = λ x. (
      λ among k is. elim among [ inl e ↦ absurd (no_member_of_none x e k is) | inr none ↦ none ],
      λ inside. inl (none_from_no_member x (λ k. elim (cases_Bool (has x k)) [ inl is ↦ absurd (inside k is) | inr out ↦ out ])),
    );
    ascending = (tt, tt);
  };
  bits = λ p j less less'. absurd (omega arith);
}

module _ (rules all : List ℕ) (r : ℕ) (sets : AreSetsOf rules all) (last : (k : ℕ) → IsAmong k rules → k < r) where
  abbrev with_rule : ℕ → ℕ
  with_rule s = union s (single r)

  inside : (x : ℕ) → IsAmong x all → (k : ℕ) → has x k ≡ true → IsAmong k rules
  inside x among = (sets.listing.exactly x).0 among

  small : (x : ℕ) → IsAmong x all → x < 2 ^ r
  small x among = below_from_members r x (λ k is. last k (inside x among k is))

  all_rising : IsAscending (λ (a b : ℕ). a < b) (all ++ map with_rule all)
  all_rising = ascending_append (λ (a b : ℕ). a < b) all (map with_rule all)
      (λ x y here there. let (z, among, e) = map_among with_rule y all there in let e' = union_above z r (small z among) in let less = small x here in omega (arith, e, e', less))
      sets.listing.ascending
      (ascending_map (λ (a b : ℕ). with_rule a < with_rule b) with_rule (λ (a b : ℕ). a < b) (λ a b h. h) all
      (ascending_as (λ (a b : ℕ). a < b) (λ (a b : ℕ). with_rule a < with_rule b) all
      (λ x y here there less. let e = union_above x r (small x here) in let e' = union_above y r (small y there) in omega (arith, e, e', less)) sets.listing.ascending))

  to : (x : ℕ) → IsAmong x (all ++ map with_rule all) → (k : ℕ) → has x k ≡ true → IsAmong k (rules ++ r ∷ [])
  to x among k is = elim (among_either x all (map with_rule all) among) [
    | inl old ↦ among_left k rules (r ∷ []) (inside x old k is)
    | inr new ↦
        let (z, here, e) = map_among with_rule x all new in
        elim ((in_with z r k).0 (ap (λ (s : ℕ). has s k) (sym e) ∙ is)) [
          | inl old ↦ among_left k rules (r ∷ []) (inside z here k old)
          | inr same ↦ among_right k rules (r ∷ []) (inl same)
        ]
  ]

  from : (x : ℕ) → ((k : ℕ) → has x k ≡ true → IsAmong k (rules ++ r ∷ [])) → IsAmong x (all ++ map with_rule all)
  from x within = elim (cases_Bool (has x r)) [
    | inl is ↦
        let z : ℕ = minus x (single r) in
        let old : (k : ℕ) → has z k ≡ true → IsAmong k rules = λ k member.
        let (here, apart) = in_minus x (single r) k member in
        elim ((among_push k rules r).0 (within k here)) [ inl among ↦ among | inr same ↦ absurd (let e = has-single r k in let e' : eqb k r ≡ true = grind (arith, nat_tests) in true≢false (sym e' ∙ sym e ∙ apart)) ] in
        among_right x all (map with_rule all) (subst (λ (y : ℕ). IsAmong y (map with_rule all)) (minus-union_back x (single r) (single_within r x is)) (among_map with_rule z all ((sets.listing.exactly z).1 old)))
    | inr out ↦ among_left x all (map with_rule all) ((sets.listing.exactly x).1 (λ k is.
        elim ((among_push k rules r).0 (within k is)) [ inl among ↦ among | inr same ↦ absurd (true≢false (sym is ∙ ap (λ (j : ℕ). has x j) same ∙ out)) ]))
  ]

  bits_left : (p j : ℕ) → p < length all → j < length rules + 1 → has (get_or all p 0) (get_or (rules ++ r ∷ []) j 0) ≡ has p j
  bits_left p j less few = elim (cases_lt j (length rules)) [
    | inl old ↦ ap (has (get_or all p 0)) (get_or_append_left rules (r ∷ []) 0 j old) ∙ sets.bits p j less old
    | inr past ↦
        let e : length rules ≡ j = omega arith in
        let out : has (get_or all p 0) r ≡ false = has_above (get_or all p 0) r r (small (get_or all p 0) (among_at all p 0 less)) (omega arith) in
        let out' : has p j ≡ false = has_above p (length rules) j (omega (arith, less, sets.long)) (omega arith) in
        ap (has (get_or all p 0)) (get_or_push rules r 0 j e) ∙ out ∙ sym out'
  ]

  bits_right : (q j : ℕ) → q < length all → j < length rules + 1 → has (with_rule (get_or all q 0)) (get_or (rules ++ r ∷ []) j 0) ≡ has (union q (single (length rules))) j
  bits_right q j less few = elim (cases_lt j (length rules)) [
    | inl old ↦
        let known : get_or rules j 0 < r = last (get_or rules j 0) (among_at rules j 0 old) in
        ap (has (with_rule (get_or all q 0))) (get_or_append_left rules (r ∷ []) 0 j old)
        ∙ has_with_other (get_or all q 0) r (get_or rules j 0) (λ e. absurd (omega (arith, e, known)))
        ∙ sets.bits q j less old ∙ sym (has_with_other q (length rules) j (λ e. absurd (omega (arith, e, old))))
    | inr past ↦
        let e : length rules ≡ j = omega arith in
        ap (has (with_rule (get_or all q 0))) (get_or_push rules r 0 j e) ∙ has_with_itself (get_or all q 0) r
        ∙ sym (subst (λ (k : ℕ). has (union q (single (length rules))) k ≡ true) e (has_with_itself q (length rules)))
  ]

  bits_more : (p j : ℕ) → p < length (all ++ map with_rule all) → j < length (rules ++ r ∷ []) → has (get_or (all ++ map with_rule all) p 0) (get_or (rules ++ r ∷ []) j 0) ≡ has p j
  bits_more p j less few =
      let few' : j < length rules + 1 = omega (arith, few, length-append rules (r ∷ [])) in
      elim (cases_lt p (length all)) [
        | inl old ↦ ap (λ (s : ℕ). has s (get_or (rules ++ r ∷ []) j 0)) (get_or_append_left all (map with_rule all) 0 p old) ∙ bits_left p j old few'
        | inr past ↦
            let q : ℕ = p - length all in
            let low : q < length all = omega (arith, less, past, length-append all (map with_rule all), length-map all with_rule) in
            let e : get_or (all ++ map with_rule all) p 0 ≡ with_rule (get_or all q 0) = get_or-append_right all (map with_rule all) (length all) p 0 refl past ∙ get_or-map with_rule all q 0 0 low in
            let e' : union q (single (length rules)) ≡ p = union_above q (length rules) (omega (arith, low, sets.long)) ∙ omega (arith, past, sets.long) in
            ap (λ (s : ℕ). has s (get_or (rules ++ r ∷ []) j 0)) e ∙ bits_right q j low few' ∙ ap (λ (s : ℕ). has s j) e'
      ]

  pub sets_of_more : AreSetsOf (rules ++ r ∷ []) (all ++ map with_rule all)
  sets_of_more = record {
    long = let e : length (rules ++ r ∷ []) ≡ suc (length rules) = omega (arith, length-append rules (r ∷ [])) in
        let twice : length (all ++ map with_rule all) ≡ 2 ^ suc (length rules) = omega (arith, sets.long, length-append all (map with_rule all), length-map all with_rule, two-pow-succ (length rules)) in
        twice ∙ ap (λ (k : ℕ). 2 ^ k) (sym e);
    listing = record { exactly = λ x. (to x, from x); ascending = all_rising };
    bits = bits_more;
  }

-- ---- going along the rules
before_seam : (xs : List ℕ) (r : ℕ) (ys : List ℕ) → IsAscending (λ (a b : ℕ). a < b) (xs ++ r ∷ ys) → (k : ℕ) → IsAmong k xs → k < r
before_seam [] r ys up k none = absurd none
before_seam (x ∷ xs) r ys up k (inl e) = let less : x < r = all_among (λ (y : ℕ). x < y) (xs ++ r ∷ ys) r up.0 (among_right r xs (r ∷ ys) (inl refl)) in omega (arith, e, less)
before_seam (x ∷ xs) r ys up k (inr later) = before_seam xs r ys up.1 k later

-- all sets of those rules that are done
pub record AreSoFar (rules rest all : List ℕ) : Type 0 where
  pub done : List ℕ
  pub whole : done ++ rest ≡ rules
  pub sets : AreSetsOf done all

pub so_far_begins : (rules rest all : List ℕ) → rest ≡ rules → all ≡ 0 ∷ [] → AreSoFar rules rest all
so_far_begins rules rest all is is' = record { done = []; whole = is; sets = subst (AreSetsOf []) (sym is') sets_of_none }

pub so_far_more : (rules : List ℕ) (r : ℕ) (rest all all' : List ℕ) → IsAscending (λ (a b : ℕ). a < b) rules → AreSoFar rules (r ∷ rest) all → all' ≡ all ++ map (λ s. union s (single r)) all → AreSoFar rules rest all'
so_far_more rules r rest all all' up h is = record {
  done = h.done ++ r ∷ [];
  whole = append_assoc h.done (r ∷ []) rest ∙ h.whole;
  sets = subst (AreSetsOf (h.done ++ r ∷ [])) (sym is) (sets_of_more h.done all r h.sets (before_seam h.done r rest (subst (IsAscending (λ (a b : ℕ). a < b)) (sym h.whole) up)));
}

pub so_far_ends : (rules rest all : List ℕ) → rest ≡ [] → AreSoFar rules rest all → AreSetsOf rules all
so_far_ends rules rest all none h = subst (λ (ds : List ℕ). AreSetsOf ds all) (sym (append-nil h.done) ∙ ap (λ (xs : List ℕ). h.done ++ xs) (sym none) ∙ h.whole) h.sets

-- ---- a change of one rule, at the places
module _ (rules all : List ℕ) (sets : AreSetsOf rules all) (rising : IsAscending (λ (a b : ℕ). a < b) rules) (p j : ℕ) (less : p < length all) (few : j < length rules) where
  pub toggled_within : toggled p j < length all
  toggled_within = subst (λ (n : ℕ). toggled p j < n) (sym sets.long) (at (has p j))
    where
      here : p < 2 ^ length rules
      here = omega (arith, less, sets.long)

      at : (b : Bool) → cond b (minus p (single j)) (union p (single j)) < 2 ^ length rules
      at true = minus-lt (length rules) p (single j) here
      at false = with-lt (length rules) p j here few

  same_test : (i : ℕ) → i < length rules → eqb (get_or rules i 0) (get_or rules j 0) ≡ eqb i j
  same_test i less' = elim (cases_order i j) [
    | inl e ↦ let e' : get_or rules i 0 ≡ get_or rules j 0 = ap (λ (k : ℕ). get_or rules k 0) e in grind (arith, nat_tests)
    | inr apart ↦ elim apart [
      | inl before ↦ let h = ascending_at (λ (a b : ℕ). a < b) rules i j 0 before few rising in grind (arith, nat_tests)
      | inr after ↦ let h = ascending_at (λ (a b : ℕ). a < b) rules j i 0 after less' rising in grind (arith, nat_tests)
    ]
  ]

  pub toggled_set : get_or all (toggled p j) 0 ≡ toggled (get_or all p 0) (get_or rules j 0)
  toggled_set = same_set (get_or all (toggled p j) 0) (toggled (get_or all p 0) (get_or rules j 0)) (λ k. elim (cases_among k rules) [
    | inl among ↦
        let (i, less', is) = place_among rules k among in
        subst (λ (k : ℕ). has (get_or all (toggled p j) 0) k ≡ has (toggled (get_or all p 0) (get_or rules j 0)) k) (is 0) (at i less')
    | inr new ↦ none (get_or all (toggled p j) 0) k (among_at all (toggled p j) 0 toggled_within) new ∙ sym (apart k new)
  ])
    where
      at : (i : ℕ) → i < length rules → has (get_or all (toggled p j) 0) (get_or rules i 0) ≡ has (toggled (get_or all p 0) (get_or rules j 0)) (get_or rules i 0)
      at i less' = sets.bits (toggled p j) i toggled_within less' ∙ has-toggled p j i
          ∙ sym (has-toggled (get_or all p 0) (get_or rules j 0) (get_or rules i 0)
          ∙ rw (same_test i less', sets.bits p j less few, sets.bits p i less less') refl)

      none : (x k : ℕ) → IsAmong x all → ¬ IsAmong k rules → has x k ≡ false
      none x k here new = elim (cases_Bool (has x k)) [ inl is ↦ absurd (new ((sets.listing.exactly x).0 here k is)) | inr out ↦ out ]

      apart : (k : ℕ) → ¬ IsAmong k rules → has (toggled (get_or all p 0) (get_or rules j 0)) k ≡ false
      apart k new =
          let differ : eqb k (get_or rules j 0) ≡ false = elim (cases_eq k (get_or rules j 0)) [ inl same ↦ absurd (new (subst (λ (i : ℕ). IsAmong i rules) (sym same) (among_at rules j 0 few))) | inr other ↦ grind (arith, nat_tests) ] in
          has-toggled (get_or all p 0) (get_or rules j 0) k ∙ rw differ (none (get_or all p 0) k (among_at all p 0 less) new)
