-- Lists as bags: one that weighs the same as an inventory, whatever each value weighs, is an inventory; and the lists of the members of a group, one after the other.
use Rattle.std.proofs.Common.{◌≡◌, ℕ, suc, ◌+◌, ◌<◌, ◌≤◌, ◌%◌, nat_eq, Bool, true, false, true≢false, cond, List, [], ◌∷◌, ◌++◌, length, Some, slice_get, refl, sym, ap, ◌∙◌, subst, inl, inr, ◌⊎◌, ◌↔◌, arith}
use Rattle.std.proofs.lemmas.Bool.{cases_eq}
use Rattle.std.proofs.lemmas.List.Sums.{sum_by-cons}
use Rattle.std.specs.List.{flat_map, sum_by}
use Rattle.mcs_base.specs.Groups.{members}
use Rattle.mcs_base.specs.Listings.{AreApart, IsAmong, IsInventory}
use Rattle.mcs_base.proofs.Among.{among_either, among_left, among_right}
use Rattle.mcs_base.proofs.Distinct.{distinct_append}
use Rattle.mcs_base.proofs.Placed.{eq_is, eq_same}
use Rattle.mcs_base.proofs.Sums.{sum_by_none}

-- ---- how often a value stands in a list
-- 1 where it holds, else 0
abbrev number_of : {P : Type 0} → P ⊎ (¬ P) → ℕ
number_of (inl here) = 1
number_of (inr never) = 0

number_yes : {P : Type 0} (c : P ⊎ (¬ P)) → P → number_of c ≡ 1
number_yes (inl here) p = refl
number_yes (inr never) p = absurd (never p)

number_no : {P : Type 0} (c : P ⊎ (¬ P)) → ¬ P → number_of c ≡ 0
number_no (inl here) never = absurd (never here)
number_no (inr other) never = refl

module _ {A : Type 0} (cases : (x y : A) → (x ≡ y) ⊎ (¬ (x ≡ y))) where
  abbrev times : A → List A → ℕ
  times x ys = sum_by (λ (y : A). number_of (cases x y)) ys

  times-cons : (x y : A) (ys : List A) → times x (y ∷ ys) ≡ number_of (cases x y) + times x ys
  times-cons x y ys = sum_by-cons (λ (z : A). number_of (cases x z)) y ys

  times_absent : (x : A) (ys : List A) → ¬ IsAmong x ys → times x ys ≡ 0
  times_absent x ys out = sum_by_none (λ (z : A). number_of (cases x z)) ys (λ z here. number_no (cases x z) (λ e. out (subst (λ (v : A). IsAmong v ys) (sym e) here)))

  times_present : (x : A) (ys : List A) → IsAmong x ys → 1 ≤ times x ys
  times_present x [] h = absurd h
  times_present x (y ∷ ys) (inl e) = let one = number_yes (cases x y) e in let all = times-cons x y ys in omega (arith, one, all)
  times_present x (y ∷ ys) (inr h) = let rest = times_present x ys h in let all = times-cons x y ys in omega (arith, rest, all)

  times_once : (x : A) (ys : List A) → AreApart ys → times x ys ≤ 1
  times_once x [] apart = omega arith
  times_once x (y ∷ ys) apart =
      let all = times-cons x y ys in
      elim (cases x y) [
        | inl e ↦ (let one = number_yes (cases x y) e in let rest = times_absent x ys (λ h. apart.0 (subst (λ (v : A). IsAmong v ys) e h)) in omega (arith, all, one, rest))
        | inr differ ↦ (let nothing = number_no (cases x y) differ in let rest = times_once x ys apart.1 in omega (arith, all, nothing, rest))
      ]

  apart_by_times : (xs : List A) → ((x : A) → times x xs ≤ 1) → AreApart xs
  apart_by_times [] few = tt
  apart_by_times (y ∷ ys) few = (
    λ here. (let some = times_present y ys here in let one = number_yes (cases y y) refl in let all = times-cons y y ys in let most = few y in omega (arith, some, one, all, most)),
    apart_by_times ys (λ x. (let all = times-cons x y ys in let most = few x in omega (arith, all, most))),
  )

  among_cases : (x : A) (ys : List A) → IsAmong x ys ⊎ (¬ IsAmong x ys)
  among_cases x [] = inr (λ h. h)
  among_cases x (y ∷ ys) = elim (cases x y) [
    | inl e ↦ inl (inl e)
    | inr differ ↦ elim (among_cases x ys) [ inl later ↦ inl (inr later) | inr out ↦ inr (λ h. elim h [ inl e ↦ differ e | inr there ↦ out there ]) ]
  ]

  -- what is among one of two lists that weigh the same is among the other
  among_by_weight : (xs ys : List A) → ((weight : A → ℕ) → sum_by weight xs ≡ sum_by weight ys) → (x : A) → IsAmong x xs → IsAmong x ys
  among_by_weight xs ys same x here = elim (among_cases x ys) [
    | inl there ↦ there
    | inr out ↦ absurd (let some = times_present x xs here in let nothing = times_absent x ys out in let e = same (λ (z : A). number_of (cases x z)) in omega (arith, some, nothing, e))
  ]

  pub inventory_by_weight : (P : A → Type 0) (xs ys : List A) → ((weight : A → ℕ) → sum_by weight xs ≡ sum_by weight ys) → IsInventory P ys → IsInventory P xs
  inventory_by_weight P xs ys same listed = record {
    exactly = λ x. ((λ here. (listed.exactly x).0 (among_by_weight xs ys same x here)), (λ p. among_by_weight ys xs (λ weight. sym (same weight)) x ((listed.exactly x).1 p)));
    apart = apart_by_times xs (λ x. (let one = times_once x ys listed.apart in let e = same (λ (z : A). number_of (cases x z)) in omega (arith, one, e)));
  }

-- an inventory of what is the same
pub inventory_same : {A : Type 0} (P Q : A → Type 0) (xs : List A) → ((x : A) → P x ↔ Q x) → IsInventory P xs → IsInventory Q xs
inventory_same P Q xs same listed = record { exactly = λ x. ((λ h. (same x).0 ((listed.exactly x).0 h)), (λ q. (listed.exactly x).1 ((same x).1 q))); apart = listed.apart }

-- an inventory of one value, and of none
pub inventory_one : {A : Type 0} (P : A → Type 0) (a : A) (xs : List A) → P a → ((x : A) → P x → x ≡ a) → IsInventory P xs → xs ≡ a ∷ []
inventory_one P a [] has only listed = absurd ((listed.exactly a).1 has)
inventory_one P a (x ∷ []) has only listed = ap (λ y. y ∷ []) (only x ((listed.exactly x).0 (inl refl)))
inventory_one P a (x ∷ y ∷ xs) has only listed =
    absurd (listed.apart.0 (inl (only x ((listed.exactly x).0 (inl refl)) ∙ sym (only y ((listed.exactly y).0 (inr (inl refl)))))))

pub inventory_none : {A : Type 0} (P : A → Type 0) (xs : List A) → ((x : A) → ¬ P x) → IsInventory P xs → xs ≡ []
inventory_none P [] never listed = refl
inventory_none P (x ∷ xs) never listed = absurd (never x ((listed.exactly x).0 (inl refl)))

-- ---- the members of a group, where the list of the i-th is an inventory of what is Q at i, and tells i
module _ {N A : Type 0} (f : N → List A) (Q : ℕ → A → Type 0) (of : A → ℕ) (named : (i : ℕ) (x : A) → Q i x → of x ≡ i) (groups g : ℕ) where
  -- it is Q at a number of the group, from k on and below n
  abbrev pub IsOfGroup : ℕ → ℕ → A → Type 0
  IsOfGroup k n x = (i : ℕ) × (k ≤ i) × (i < n) × (i % groups ≡ g) × Q i x

  later_of_group : (k n : ℕ) (x : A) → IsOfGroup (k + 1) n x → IsOfGroup k n x
  later_of_group k n x (i, from, below, at, q) = (i, omega (arith, from), below, at, q)

  with_member : (k n : ℕ) (xs ys : List A) → k < n → k % groups ≡ g → IsInventory (Q k) xs → IsInventory (IsOfGroup (k + 1) n) ys → IsInventory (IsOfGroup k n) (xs ++ ys)
  with_member k n xs ys less own here rest = record {
    exactly = λ x. (
      λ h. elim (among_either x xs ys h) [ inl first ↦ (k, omega arith, less, own, (here.exactly x).0 first) | inr later ↦ later_of_group k n x ((rest.exactly x).0 later) ],
      λ w. (let (i, from, below, at, q) = w in
          elim (cases_eq i k) [
            | inl e ↦ among_left x xs ys ((here.exactly x).1 (subst (λ (j : ℕ). Q j x) e q))
            | inr differ ↦ among_right x xs ys ((rest.exactly x).1 (i, omega (arith, from, differ), below, at, q))
          ]),
    );
    apart = distinct_append xs ys here.apart rest.apart (λ x first later. (
        let (i, from, below, at, q) = (rest.exactly x).0 later in
        let mine = named k x ((here.exactly x).0 first) in
        let other = named i x q in
        omega (arith, from, mine, other)));
  }

  without_member : (k n : ℕ) (ys : List A) → ¬ (k % groups ≡ g) → IsInventory (IsOfGroup (k + 1) n) ys → IsInventory (IsOfGroup k n) ys
  without_member k n ys stranger rest = record {
    exactly = λ x. (
      λ h. later_of_group k n x ((rest.exactly x).0 h),
      λ w. (let (i, from, below, at, q) = w in
          elim (cases_eq i k) [
            | inl e ↦ absurd (stranger (ap (λ (j : ℕ). j % groups) (sym e) ∙ at))
            | inr differ ↦ (rest.exactly x).1 (i, omega (arith, from, differ), below, at, q)
          ]),
    );
    apart = rest.apart;
  }

  one_more : (k n : ℕ) (d : N) (ds : List N) (b : Bool) → nat_eq (k % groups) g ≡ b → k < n → IsInventory (Q k) (f d) → IsInventory (IsOfGroup (k + 1) n) (flat_map f ds) → IsInventory (IsOfGroup k n) (flat_map f (cond b (d ∷ ds) ds))
  one_more k n d ds true is less here rest = with_member k n (f d) (flat_map f ds) less (eq_is (k % groups) g is) here rest
  one_more k n d ds false is less here rest = without_member k n (flat_map f ds) (λ e. true≢false (sym (ap (λ (j : ℕ). nat_eq j g) e ∙ eq_same g) ∙ is)) rest

  pub members_listed : (k n : ℕ) (ds : List N) → n ≡ k + length ds → ((i : ℕ) (d : N) → slice_get ds i ≡ Some d → IsInventory (Q (k + i)) (f d)) → IsInventory (IsOfGroup k n) (flat_map f (members groups g k ds))
  members_listed k n [] long each = record { exactly = λ x. ((λ h. absurd h), (λ w. absurd (let (i, from, below, at, q) = w in omega (arith, long, from, below)))); apart = tt }
  members_listed k n (d ∷ ds) long each =
      let first : k + 0 ≡ k = omega arith in
      let here : IsInventory (Q k) (f d) = subst (λ (j : ℕ). IsInventory (Q j) (f d)) first (each 0 d refl) in
      let rest = members_listed (k + 1) n ds (omega (arith, long)) (λ i e at. (let next : k + suc i ≡ k + 1 + i = omega arith in subst (λ (j : ℕ). IsInventory (Q j) (f e)) next (each (suc i) e at))) in
      one_more k n d (members groups g (k + 1) ds) (nat_eq (k % groups) g) refl (omega (arith, long)) here rest
