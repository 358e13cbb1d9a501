-- Whether one state comes before another, as a test.
use Rattle.std.proofs.Common.{◌≡◌, ℕ, ◌<◌, Bool, true, false, cond, not, IsTrue, ◌↔◌, List, [], ◌∷◌, bit_xor, refl, sym, ap, ◌∙◌, subst, arith, inl, inr, ◌⊎◌, true≢false}
use Rattle.std.proofs.lemmas.Bool.{false_from_ne_true}
use Rattle.std.specs.List.{AllByRecursion}
use Rattle.std.specs.Option.{option_map_or}
use Rattle.mcs_sets.specs.Sets.{has, members, IsLeast}
use Rattle.mcs_sets.specs.Orders.{StateBefore}
use Rattle.mcs_sets.proofs.SetLemmas.{has-differ, members-least}
use Rattle.mcs_base.specs.Listings.{IsAmong, IsAscending}
use Rattle.mcs_base.proofs.Each.{all_among}
use Rattle.mcs_base.proofs.ListingLemmas.{members_listing}
use Rattle.mcs_proof_reader.specs.Questions.{first_of, is_state_before}
use Rattle.std.proofs.lemmas.Bool.Decides.{nat_tests}

module _ (a b : ℕ) where
  abbrev differ : ℕ
  differ = bit_xor a b

  first_least : (k : ℕ) (ks : List ℕ) → members differ ≡ k ∷ ks → IsLeast differ k
  first_least k ks e =
      let l = members_listing differ in
      record {
        in_set = (l.exactly k).0 (subst (IsAmong k) (sym e) (inl refl));
        none_below = λ j less. false_from_ne_true (has differ j) (λ member. later j less (subst (IsAmong j) e ((l.exactly j).1 member)));
      }
    where
      up : AllByRecursion (λ j. k < j) ks
      up = (subst (IsAscending (λ i j. i < j)) e (members_listing differ).ascending).0

      later : (j : ℕ) → j < k → (j ≡ k) ⊎ IsAmong j ks → ⊥
      later j less (inl same) = omega (arith, less, same)
      later j less (inr among) = let more : k < j = all_among (λ j. k < j) ks j up among in omega (arith, less, more)

  by_first : (ks : List ℕ) → members differ ≡ ks → option_map_or (has a) (first_of ks) false ≡ true → StateBefore a b
  by_first [] e is = absurd (true≢false (sym is))
  by_first (k ∷ ks) e is =
      let least = first_least k ks e in
      record {
        at = k;
        in_first = is;
        not_in_second = (let e : cond (has a k) (not (has b k)) (has b k) ≡ true = sym (has-differ a b k) ∙ least.in_set in grind (arith, nat_tests));
        same_below = λ j less. (let e : cond (has a j) (not (has b j)) (has b j) ≡ false = sym (has-differ a b j) ∙ least.none_below j less in grind (arith, nat_tests));
      }

  pub told_before : is_state_before a b ≡ true → StateBefore a b
  unfolding is_state_before
  told_before is = by_first (members differ) refl is

  least_of : (h : StateBefore a b) → IsLeast differ h.at
  least_of h = record {
    in_set = has-differ a b h.at ∙ (ap (λ (v : Bool). cond v (not (has b h.at)) (has b h.at)) h.in_first ∙ ap not h.not_in_second);
    none_below = λ j less. has-differ a b j ∙ none (has a j) (has b j) (h.same_below j less);
  }
    where
      none : (v w : Bool) → v ≡ w → cond v (not w) w ≡ false
      none true true e = refl
      none true false e = absurd (true≢false e)
      none false true e = absurd (true≢false (sym e))
      none false false e = refl

  pub is_told : StateBefore a b → is_state_before a b ≡ true
  unfolding is_state_before
  is_told h = ap (λ (ks : List ℕ). option_map_or (has a) (first_of ks) false) (members-least differ h.at (least_of h)) ∙ h.in_first

  -- as the code tests it
  pub tested : (r : Bool) → (IsTrue r ↔ StateBefore a b) → r ≡ is_state_before a b
  tested true told = sym (is_told (told.0 refl))
  tested false told = sym (false_from_ne_true (is_state_before a b) (λ is. true≢false (sym (told.1 (told_before is)))))
