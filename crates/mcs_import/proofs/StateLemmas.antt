-- States that are joined and grown one list, or one number, after the other.
use Rattle.std.proofs.Common.{Vec, Global, ◌≡◌, ℕ, ◌+◌, ◌<◌, ◌≤◌, Bool, true, false, not, ◌&&◌, ◌||◌, eqb, List, [], ◌∷◌, ◌++◌, length, map, drop, get_or, refl, sym, ap, ◌∙◌, subst, inl, inr, ◌⊎◌, ◌↔◌, arith, true≢false}
use Rattle.std.proofs.lemmas.Bool.{and_parts, or_cases, false_from_ne_true}
use Rattle.std.proofs.lemmas.Bool.Decides.{nat_tests}
use Rattle.std.proofs.lemmas.List.{at_drop_more, at_drop_all}
use Rattle.std.specs.List.{flat_map}
use Rattle.mcs_sets.specs.Sets.{has, single, union, common, minus, members, Within}
use Rattle.mcs_sets.proofs.SetLemmas.{same_set, has-empty, has-single, has-union, has-minus}
use Rattle.mcs_sets.proofs.Lattice.{union-none, none-union, union_assoc, none_from_no_member}
use Rattle.mcs_base.specs.Listings.{IsAmong}
use Rattle.mcs_base.proofs.ListingLemmas.{members_listing}
use Rattle.mcs_base.proofs.Among.{among_left, among_right, among_either, among_map, map_among, among_flat_map, flat_map_among}
use Rattle.mcs_import.specs.States.{Joins, GrowsByGuess, SomeJoins, SomeGrows}

-- ---- one list more
pub joins_step : (mask : ℕ) (xs : List ℕ) (xss : List (List ℕ)) (starts parts next : List ℕ) → ((ρ : ℕ) → IsAmong ρ parts ↔ IsAmong ρ (map (λ s. common s mask) xs)) → next ≡ flat_map (λ s. map (union s) parts) starts → (ρ : ℕ) → SomeJoins mask xss next ρ ↔ SomeJoins mask (xs ∷ xss) starts ρ
joins_step mask xs xss starts parts next same is ρ = (to, from)
  where
    to : SomeJoins mask xss next ρ → SomeJoins mask (xs ∷ xss) starts ρ
    to (a, among, joins) =
        let (s, here, there) = flat_map_among (λ s. map (union s) parts) a starts (subst (λ (ys : List ℕ). IsAmong a ys) is among) in
        let (t, of_parts, e) = map_among (union s) a parts there in
        let (τ, of_xs, e') = map_among (λ s. common s mask) t xs ((same t).0 of_parts) in
        (s, here, (τ, of_xs, subst (λ (b : ℕ). Joins mask xss b ρ) (e ∙ ap (union s) e') joins))

    from : SomeJoins mask (xs ∷ xss) starts ρ → SomeJoins mask xss next ρ
    from (s, here, (τ, of_xs, joins)) =
        let of_parts : IsAmong (common τ mask) parts = (same (common τ mask)).1 (among_map (λ s. common s mask) τ xs of_xs) in (
          union s (common τ mask),
          subst (λ (ys : List ℕ). IsAmong (union s (common τ mask)) ys) (sym is)
              (among_flat_map (λ s. map (union s) parts) s (union s (common τ mask)) starts here (among_map (union s) (common τ mask) parts of_parts)),
          joins,
        )

abbrev pub lists : List (Vec ℕ Global) → List (List ℕ)
lists supplies = map (λ supply. supply.items) supplies

pub supplies_step : (mask : ℕ) (supplies : List (Vec ℕ Global)) (k : ℕ) (supply : Vec ℕ Global) → k < length supplies → supply ≡ get_or supplies k supply → (starts parts next : List ℕ)
    → ((ρ : ℕ) → IsAmong ρ parts ↔ IsAmong ρ (map (λ s. common s mask) supply.items)) → next ≡ flat_map (λ s. map (union s) parts) starts → (Whole : ℕ → Type 0)
    → ((ρ : ℕ) → SomeJoins mask (lists (drop k supplies)) starts ρ ↔ Whole ρ) → (ρ : ℕ) → SomeJoins mask (lists (drop (k + 1) supplies)) next ρ ↔ Whole ρ
supplies_step mask supplies k supply less is starts parts next same joined Whole old ρ =
    let step = joins_step mask supply.items (lists (drop (k + 1) supplies)) starts parts next same joined ρ in
    let e : lists (drop k supplies) ≡ supply.items ∷ lists (drop (k + 1) supplies) = at_drop_more lists supplies k supply less ∙ ap (λ (s : Vec ℕ Global). s.items ∷ lists (drop (k + 1) supplies)) (sym is) in
    let now = subst (λ (xss : List (List ℕ)). SomeJoins mask xss starts ρ ↔ Whole ρ) e (old ρ) in
    (λ h. now.0 (step.0 h), λ h. step.1 (now.1 h))

pub supplies_end : (mask : ℕ) (supplies : List (Vec ℕ Global)) (k : ℕ) → length supplies ≤ k → (states : List ℕ) (Whole : ℕ → Type 0) → ((ρ : ℕ) → SomeJoins mask (lists (drop k supplies)) states ρ ↔ Whole ρ) → (ρ : ℕ) → IsAmong ρ states ↔ Whole ρ
supplies_end mask supplies k over states Whole old ρ =
    let now = subst (λ (xss : List (List ℕ)). SomeJoins mask xss states ρ ↔ Whole ρ) (at_drop_all lists supplies k over) (old ρ) in
    (λ among. now.0 (ρ, among, refl), λ h. (let (a, among, e) = now.1 h in subst (λ (z : ℕ). IsAmong z states) e among))

-- ---- one number more
pub grows_step : (v : ℕ) (vs : List ℕ) (starts next : List ℕ) → next ≡ starts ++ map (λ s. union s (single v)) starts → (s : ℕ) → SomeGrows vs next s ↔ SomeGrows (v ∷ vs) starts s
grows_step v vs starts next is s = (to, from)
  where
    to : SomeGrows vs next s → SomeGrows (v ∷ vs) starts s
    to (a, among, grows) = elim (among_either a starts (map (λ s. union s (single v)) starts) (subst (λ (ys : List ℕ). IsAmong a ys) is among)) [
      | inl old ↦ (a, old, inl grows)
      | inr new ↦ let (b, old, e) = map_among (λ s. union s (single v)) a starts new in (b, old, inr (subst (λ (z : ℕ). GrowsByGuess vs z s) e grows))
    ]

    from : SomeGrows (v ∷ vs) starts s → SomeGrows vs next s
    from (a, among, inl grows) = (a, subst (λ (ys : List ℕ). IsAmong a ys) (sym is) (among_left a starts (map (λ s. union s (single v)) starts) among), grows)
    from (a, among, inr grows) = (union a (single v), subst (λ (ys : List ℕ). IsAmong (union a (single v)) ys) (sym is) (among_right (union a (single v)) starts (map (λ s. union s (single v)) starts) (among_map (λ s. union s (single v)) a starts among)), grows)

pub grows_end : (starts : List ℕ) (s : ℕ) → SomeGrows [] starts s ↔ IsAmong s starts
grows_end starts s = (λ (a, among, e). subst (λ (z : ℕ). IsAmong z starts) e among, λ among. (s, among, refl))

-- what grows by some of the numbers
grows_by : (vs : List ℕ) (a s : ℕ) → GrowsByGuess vs a s → (g : ℕ) × ((k : ℕ) → has g k ≡ true → IsAmong k vs) × (s ≡ union a g)
grows_by [] a s e = (0, λ k h. absurd (true≢false (sym h ∙ has-empty k)), sym e ∙ sym (union-none a))
grows_by (v ∷ vs) a s (inl h) = let (g, known, e) = grows_by vs a s h in (g, λ k member. inr (known k member), e)
grows_by (v ∷ vs) a s (inr h) =
    let (g, known, e) = grows_by vs (union a (single v)) s h in
    (union (single v) g, λ k member. either g k (known k) (or_cases (has (single v) k) (has g k) (sym (has-union (single v) g k) ∙ member)), e ∙ union_assoc a (single v) g)
  where
    either : (g k : ℕ) → (has g k ≡ true → IsAmong k vs) → (has (single v) k ≡ true) ⊎ (has g k ≡ true) → (k ≡ v) ⊎ IsAmong k vs
    either g k known (inl h) = let s = has-single v k in inl (grind (arith, nat_tests))
    either g k known (inr h) = inr (known h)

by_grows : (vs : List ℕ) (a g : ℕ) → ((k : ℕ) → has g k ≡ true → IsAmong k vs) → GrowsByGuess vs a (union a g)
by_grows [] a g known = sym (ap (union a) (none_from_no_member g (λ k. false_from_ne_true (has g k) (known k))) ∙ union-none a)
by_grows (v ∷ vs) a g known = at (has g v) refl (by_grows vs (union a (single v)) (minus g (single v)) rest) (λ known'. by_grows vs a g known')
  where
    rest : (k : ℕ) → has (minus g (single v)) k ≡ true → IsAmong k vs
    rest k h = let parts = and_parts (has g k) (not (has (single v) k)) (sym (has-minus g (single v) k) ∙ h) in
        elim (known k parts.0) [ inl same ↦ (let s = has-single v k in absurd (grind (arith, nat_tests, parts.1))) | inr later ↦ later ]

    whole : has g v ≡ true → union (single v) (minus g (single v)) ≡ g
    whole e = same_set _ _ (λ k. has-union (single v) (minus g (single v)) k ∙ rw (has-minus g (single v) k, has-single v k) (here k (eqb k v) refl))
      where
        here : (k : ℕ) (u : Bool) → eqb k v ≡ u → (u || (has g k && not u)) ≡ has g k
        here k true e' = let same : k ≡ v = grind (arith, nat_tests) in sym (ap (has g) same ∙ e)
        here k false e' = and-true (has g k)
          where
            and-true : (u : Bool) → (u && true) ≡ u
            and-true true = refl
            and-true false = refl

    at : (u : Bool) → has g v ≡ u → GrowsByGuess vs (union a (single v)) (union (union a (single v)) (minus g (single v))) → (((k : ℕ) → has g k ≡ true → IsAmong k vs) → GrowsByGuess vs a (union a g)) → GrowsByGuess (v ∷ vs) a (union a g)
    at true e with_v without = inr (subst (λ (z : ℕ). GrowsByGuess vs (union a (single v)) z) (union_assoc a (single v) (minus g (single v)) ∙ ap (union a) (whole e)) with_v)
    at false e with_v without = inl (without (λ k h. elim (known k h) [ inl same ↦ absurd (true≢false (sym h ∙ ap (has g) same ∙ e)) | inr later ↦ later ]))

-- what grows by the members of a set
pub grows_is : (whole a s : ℕ) → GrowsByGuess (members whole) a s ↔ ((g : ℕ) × Within g whole × (s ≡ union a g))
grows_is whole a s = (
  λ h. let (g, known, e) = grows_by (members whole) a s h in (g, λ k member. ((members_listing whole).exactly k).0 (known k member), e),
  λ (g, within, e). subst (λ (z : ℕ). GrowsByGuess (members whole) a z) (sym e) (by_grows (members whole) a g (λ k member. ((members_listing whole).exactly k).1 (within k member))),
)

-- all subsets
pub grown_from_none : (whole s : ℕ) → SomeGrows (members whole) (0 ∷ []) s ↔ Within s whole
grown_from_none whole s = (to, λ within. (0, inl refl, (grows_is whole 0 s).1 (s, within, sym (none-union s))))
  where
    to : SomeGrows (members whole) (0 ∷ []) s → Within s whole
    to (a, inl e, h) = let (g, within, e') = (grows_is whole a s).0 h in subst (λ (z : ℕ). Within z whole) (sym (e' ∙ ap (λ z. union z g) e ∙ none-union g)) within
    to (a, inr h, grows) = absurd h

-- ---- the states that are joined, from the empty one, and then grown
pub states_found : (mask : ℕ) (xss : List (List ℕ)) (guesses : ℕ) (joined states : List ℕ) → ((ρ : ℕ) → IsAmong ρ joined ↔ SomeJoins mask xss (0 ∷ []) ρ) → ((ρ : ℕ) → IsAmong ρ states ↔ SomeGrows (members guesses) joined ρ)
    → (ρ : ℕ) → IsAmong ρ states ↔ ((p : ℕ) × (g : ℕ) × Joins mask xss 0 p × Within g guesses × (ρ ≡ union p g))
states_found mask xss guesses joined states of_joins of_grows ρ = (
  λ among. let (p, here, grows) = (of_grows ρ).0 among in let (g, within, e) = (grows_is guesses p ρ).0 grows in (p, g, start p ((of_joins p).0 here), within, e),
  λ (p, g, joins, within, e). (of_grows ρ).1 (p, (of_joins p).1 (0, inl refl, joins), (grows_is guesses p ρ).1 (g, within, e)),
)
  where
    start : (p : ℕ) → SomeJoins mask xss (0 ∷ []) p → Joins mask xss 0 p
    start p (a, inl e, joins) = subst (λ (z : ℕ). Joins mask xss z p) e joins
    start p (a, inr none, joins) = absurd none
