-- What follows from the consequents of a set follows from those of a larger one, and what a search takes from that.
use Rattle.std.proofs.Common.{◌≡◌, ℕ, ◌+◌, ◌<◌, ◌≤◌, ◌^◌, Bool, true, false, not, List, [], ◌∷◌, ◌++◌, map, length, get_or, take, arith, refl, sym, ap, ◌∙◌, subst, ◌⊎◌, ◌↔◌, inl, inr, Some, None, slice_get, IsTrue, true≢false}
use Rattle.std.proofs.lemmas.List.{length-map, length-take-le, map_more}
use Rattle.std.proofs.lemmas.Bool.{cases_eq}
use Rattle.std.proofs.lemmas.Option.{slice_get_read, slice_get_within}
use Rattle.std.specs.List.{AllByRecursion}
use Rattle.mcs_sets.specs.Sets.{has, single, union, minus, size, Within}
use Rattle.mcs_sets.specs.Orders.{StateBefore}
use Rattle.mcs_sets.proofs.SetLemmas.{has-empty, has-minus, such_that-lt, Within-le}
use Rattle.mcs_sets.proofs.Lattice.{in_minus, in_with, has-without_itself, minus_within, within_union_left, with_within, within_antisymmetric, size-less, none_within, outside_larger, within_without}
use Rattle.mcs_base.specs.Listings.{IsAmong, IsListing}
use Rattle.mcs_base.proofs.Among.{among_push}
use Rattle.mcs_base.proofs.Each.{all_get, all_weaker}
use Rattle.mcs_base.proofs.ListingLemmas.{IsListing-same}
use Rattle.mcs_base.proofs.Lists.{slice_get_below, slice_get-map_at, slice_get_kept, slice_get_seam, slice_get_push_at}
use Rattle.mcs_system.specs.Plain.{Name, Formula, Falsity, Not, Default, Item, DefaultTheory}
use Rattle.mcs_system.specs.Logic.{BeliefSet, Believes, Theory, Entails, holds, true_names}
use Rattle.mcs_system.specs.Views.{Shows, IsAcceptedView}
use Rattle.mcs_evidence.specs.Defaults.{defaults_of, generated}
use Rattle.mcs_system.proofs.Consequence.{one_set, follows_through}
use Rattle.mcs_evidence.proofs.DefaultLemmas.{generated_each, facts_follow, conclusion_follows}
use Rattle.mcs_evidence.specs.Theories.{IsDefaultAt, NoneSupported, Generates}
use Rattle.mcs_evidence.proofs.Extensions.{generated_view}
use Rattle.mcs_evidence.specs.Theories.{all_of}
use Rattle.mcs_default.specs.Searches.{IsAllowedBy, IsSupportedAt, IsUnsupportedAt, IsAllowedAt, IsBlockedAt, IsConflict, IsLower, IsUpper, IsBelow, IsOpenAt, IsGroundedSet, IsViewBelow}
use Rattle.mcs_default.specs.declared.findings.Lower as lower
use Rattle.mcs_default.specs.declared.findings.Upper as upper
use Rattle.mcs_default.proofs.JudgeLemmas.{numbered_within}
use Rattle.mcs_default.proofs.FindingLemmas.{nothing_contradicts, denied, others_unsupported, these_allowed}

-- ---- more and less
module _ (items : List Item) (a b : ℕ) (within : Within a b) where
  generated_within : AllByRecursion (Entails (generated items b)) (generated items a)
  generated_within = generated_each items a (Entails (generated items b)) (facts_follow items b) (λ k d is member. conclusion_follows items b k d is (within k member))

  pub follows_more : (p : Formula) → Entails (generated items a) p → Entails (generated items b) p
  follows_more p follows = follows_through (generated items b) (generated items a) p generated_within follows

  pub allowed_less : (d : Default) → IsAllowedBy (generated items b) d → IsAllowedBy (generated items a) d
  allowed_less d allowed = all_weaker (λ j. ¬ Entails (generated items b) (Not j)) (λ j. ¬ Entails (generated items a) (Not j)) (λ j never follows. never (follows_more (Not j) follows)) d.justs allowed

-- ---- what was found
module _ (items : List Item) where
  pub lower_supports : (xs : List lower.Lower) (i : ℕ) (x : lower.Lower) (set k : ℕ) → i < length xs → x ≡ get_or xs i x → has x.supported k ≡ true → Within x.set set → AllByRecursion (IsLower items) xs → IsSupportedAt items set k
  lower_supports xs i x set k less is member within all d at = follows_more items x.set set within d.pre ((all_get (IsLower items) xs i x all (slice_get_read xs (length xs) i x refl less is)).supported k member d at)

  pub lower_blocks : (xs : List lower.Lower) (i : ℕ) (x : lower.Lower) (set k : ℕ) → i < length xs → x ≡ get_or xs i x → has x.blocked k ≡ true → Within x.set set → AllByRecursion (IsLower items) xs → IsBlockedAt items set k
  lower_blocks xs i x set k less is member within all d at allowed = (all_get (IsLower items) xs i x all (slice_get_read xs (length xs) i x refl less is)).blocked k member d at (allowed_less items x.set set within d allowed)

  pub upper_denies : (names : List Name) (xs : List upper.Upper) (i : ℕ) (x : upper.Upper) (set k : ℕ) → i < length xs → x ≡ get_or xs i x → has x.supported k ≡ false → Within set x.set → AllByRecursion (IsUpper names items) xs → IsUnsupportedAt items set k
  upper_denies names xs i x set k less is out within all d at follows = others_unsupported names items x (all_get (IsUpper names items) xs i x all (slice_get_read xs (length xs) i x refl less is)) k out d at (follows_more items set x.set within d.pre follows)

  pub upper_refutes : (names : List Name) (xs : List upper.Upper) (i : ℕ) (x : upper.Upper) (set : ℕ) (g : Formula) → i < length xs → x ≡ get_or xs i x → holds (true_names 0 names x.values) g ≡ false → Within set x.set → AllByRecursion (IsUpper names items) xs → ¬ Entails (generated items set) g
  upper_refutes names xs i x set g less is out within all follows = denied names items x (all_get (IsUpper names items) xs i x all (slice_get_read xs (length xs) i x refl less is)) g out (follows_more items set x.set within g follows)

  pub upper_allows : (names : List Name) (xs : List upper.Upper) (i : ℕ) (x : upper.Upper) (set k : ℕ) → i < length xs → x ≡ get_or xs i x → has x.allowed k ≡ true → Within set x.set → AllByRecursion (IsUpper names items) xs → IsAllowedAt items set k
  upper_allows names xs i x set k less is member within all d at = allowed_less items set x.set within d (these_allowed names items x (all_get (IsUpper names items) xs i x all (slice_get_read xs (length xs) i x refl less is)) k member d at)

  pub conflict_within : (xs : List ℕ) (i x set : ℕ) → i < length xs → x ≡ get_or xs i x → Within x set → AllByRecursion (IsConflict items) xs → IsConflict items set
  conflict_within xs i x set less is within all = follows_more items x set within Falsity (all_get (IsConflict items) xs i x all (slice_get_read xs (length xs) i x refl less is))

  pub upper_consistent : (names : List Name) (xs : List upper.Upper) (i : ℕ) (x : upper.Upper) (set : ℕ) → i < length xs → x ≡ get_or xs i x → Within set x.set → AllByRecursion (IsUpper names items) xs → ¬ IsConflict items set
  upper_consistent names xs i x set less is within all conflict = nothing_contradicts names items x (all_get (IsUpper names items) xs i x all (slice_get_read xs (length xs) i x refl less is)) (follows_more items set x.set within Falsity conflict)

  -- where everything follows, a default is allowed if it has no justification
  pub allowed_by_none : (set : ℕ) (js : List Formula) (b : Bool) → IsConflict items set → IsTrue b ↔ (js ≡ []) → IsTrue b ↔ AllByRecursion (λ j. ¬ Entails (generated items set) (Not j)) js
  allowed_by_none set [] b conflict is = (λ _. tt, λ _. is.1 refl)
  allowed_by_none set (j ∷ js) b conflict is = (λ holds. absurd (let none : j ∷ js ≡ [] = is.0 holds in cc), λ allowed. absurd (allowed.0 (λ a h. absurd (true≢false (sym (conflict a h))))))

-- ---- a node and what is below it
module _ (items : List Item) where
  pub open_above : (taken all set : ℕ) → IsBelow taken all set → Generates items set → (k : ℕ) → IsOpenAt items taken all k
  open_above taken all set below generates k = record {
    inside = λ member d at. (let applies = generates.applied k d at (below.0 k member) in (follows_more items set all below.1 d.pre applies.supported, allowed_less items taken set below.0 d applies.allowed));
    outside = λ out d at both. generates.complete k d at (outside_larger set all k below.1 out)
        (record { supported = follows_more items taken set below.0 d.pre both.0; allowed = allowed_less items set all below.1 d both.1 });
  }

  pub leaf_generates : (set : ℕ) → set < 2 ^ length (defaults_of items) → ((k : ℕ) → k < length (defaults_of items) → IsOpenAt items set set k) → IsGroundedSet items set → Generates items set
  leaf_generates set small stays grounded = record {
    inside = small;
    applied = λ k d at member. (let both = (stays k (slice_get_within (defaults_of items) k d at)).inside member d at in record { supported = both.0; allowed = both.1 });
    complete = λ k d at out h. (stays k (slice_get_within (defaults_of items) k d at)).outside out d at (h.supported, h.allowed);
    grounded = grounded;
  }

  module _ (beliefs : List Formula) where
    -- the views that are listed, and those below a node
    abbrev pub AreAdded : ℕ → ℕ → List ℕ → List ℕ → Type 0
    AreAdded taken all views views' = (places : ℕ) → IsAmong places views' ↔ (IsAmong places views ⊎ IsViewBelow items beliefs taken all places)

    pub none_added : (taken all : ℕ) (views : List ℕ) → ((set : ℕ) → IsBelow taken all set → ¬ Generates items set) → AreAdded taken all views views
    none_added taken all views none places = (λ old. inl old, λ h. elim h [ inl old ↦ old | inr new ↦ absurd (none new.0 new.1 new.2) ])

    pub one_added : (set view : ℕ) (views views' : List ℕ) → Generates items set → Shows (Theory (generated items set)) beliefs view → views' ≡ views ++ view ∷ [] → AreAdded set set views views'
    one_added set view views views' generates shown pushed places = (
      λ among. elim ((among_push places views view).0 (subst (IsAmong places) pushed among)) [
        | inl old ↦ inl old
        | inr same ↦ inr (set, (λ k member. member, λ k member. member), generates, subst (Shows (Theory (generated items set)) beliefs) (sym same) shown)
      ],
      λ h. subst (IsAmong places) (sym pushed) ((among_push places views view).1 (elim h as (λ _. IsAmong places views ⊎ (places ≡ view)) [
        | inl old ↦ inl old
        | inr new ↦ inr (let same : new.0 ≡ set = within_antisymmetric new.0 set new.1.1 new.1.0 in one_set (Theory (generated items set)) beliefs places view (subst (λ (s : ℕ). Shows (Theory (generated items s)) beliefs places) same new.3) shown)
      ])),
    )

    split : (taken all k places : ℕ) → IsViewBelow items beliefs taken all places → IsViewBelow items beliefs taken (minus all (single k)) places ⊎ IsViewBelow items beliefs (union taken (single k)) all places
    split taken all k places (set, below, generates, shown) = at (has set k) refl
      where
        at : (b : Bool) → has set k ≡ b → IsViewBelow items beliefs taken (minus all (single k)) places ⊎ IsViewBelow items beliefs (union taken (single k)) all places
        at true member = inr (set, (with_within taken k set below.0 member, below.1), generates, shown)
        at false out = inl (set, (below.0, within_without set all k below.1 out), generates, shown)

    pub both_added : (taken all k : ℕ) (views between views' : List ℕ) → AreAdded taken (minus all (single k)) views between → AreAdded (union taken (single k)) all between views' → AreAdded taken all views views'
    both_added taken all k views between views' first second places = (
      λ among. elim ((second places).0 among) [
        | inl there ↦ elim ((first places).0 there) [
          | inl old ↦ inl old
          | inr new ↦ inr (new.0, (new.1.0, λ j member. minus_within all (single k) j (new.1.1 j member)), new.2, new.3)
        ]
        | inr new ↦ inr (new.0, (λ j member. new.1.0 j (within_union_left taken (single k) j member), new.1.1), new.2, new.3)
      ],
      λ h. elim h [
        | inl old ↦ (second places).1 (inl ((first places).1 (inl old)))
        | inr new ↦ elim (split taken all k places new) [
          | inl left ↦ (second places).1 (inl ((first places).1 (inr left)))
          | inr right ↦ (second places).1 (inr right)
        ]
      ],
    )

    -- of all sets
    pub all_added : (ds : List Default) (views outputs : List ℕ) → ds ≡ defaults_of items → AreAdded 0 (all_of ds) [] views → IsListing (λ s. IsAmong s views) StateBefore outputs → IsListing (IsAcceptedView (DefaultTheory items) beliefs) StateBefore outputs
    all_added ds views outputs same added listing = IsListing-same StateBefore (λ s. IsAmong s views) (IsAcceptedView (DefaultTheory items) beliefs) outputs (λ places. (to places, from places)) listing
      where
        to : (places : ℕ) → IsAmong places views → IsAcceptedView (DefaultTheory items) beliefs places
        to places among = elim ((added places).0 among) [
          | inl none ↦ absurd none
          | inr new ↦ (generated_view items beliefs places).1 (new.0, new.2, new.3)
        ]

        from : (places : ℕ) → IsAcceptedView (DefaultTheory items) beliefs places → IsAmong places views
        from places view =
            let (set, generates, shown) = (generated_view items beliefs places).0 view in
            (added places).1 (inr (set, (none_within set, numbered_within set ds (subst (λ (xs : List Default). set < 2 ^ length xs) (sym same) generates.inside)), generates, shown))

pub all_numbered : (ds : List Default) (n : ℕ) → n + 1 ≡ 2 ^ length ds → n ≡ all_of ds
all_numbered ds n is =
    let less : all_of ds < 2 ^ length ds = such_that-lt (length ds) (λ k. true) in
    let back : n ≤ all_of ds = Within-le n (all_of ds) (numbered_within n ds (omega arith)) in
    omega arith

-- ---- parts that are derived
-- each part of the set by which none of its other defaults is supported has the whole part
abbrev pub IsDerivedPart : List Item → ℕ → ℕ → Type 0
IsDerivedPart items set part = (other : ℕ) → Within other set → NoneSupported items set other → Within part other

pub derived_none : (items : List Item) (set : ℕ) → IsDerivedPart items set 0
derived_none items set other within none = none_within other

pub derived_next : (items : List Item) (set part k : ℕ) (d : Default) → IsDefaultAt items k d → has set k ≡ true → Entails (generated items part) d.pre → IsDerivedPart items set part → IsDerivedPart items set (union part (single k))
derived_next items set part k d is member follows before other within none = with_within part k other (before other within none) (at (has other k) refl)
  where
    at : (b : Bool) → has other k ≡ b → b ≡ true
    at true e = refl
    at false out = absurd (none k d is member out (follows_more items part other (before other within none) d.pre follows))

pub grounded_exactly : (items : List Item) (set part : ℕ) (b : Bool) → Within part set → IsDerivedPart items set part → ((k : ℕ) → has (minus set part) k ≡ true → IsUnsupportedAt items part k) → IsTrue b ↔ Within set part → IsTrue b ↔ IsGroundedSet items set
grounded_exactly items set part b within derived stuck is = (to, from)
  where
    to : IsTrue b → IsGroundedSet items set
    to holds other inside differ none = differ (within_antisymmetric other set inside (λ k member. derived other inside none k (is.0 holds k member)))

    from : IsGroundedSet items set → IsTrue b
    from grounded = elim (cases_eq part set) [
      | inl same ↦ is.1 (subst (Within set) (sym same) (λ k member. member))
      | inr differ ↦ absurd (grounded part within differ (λ k d at member out. stuck k (has-minus set part k ∙ rw (member, out) refl) d at))
    ]

-- ---- of the justifications, one after the other
pub not_allowed : (fs : List Formula) (js : List Formula) (i : ℕ) (j : Formula) → slice_get js i ≡ Some j → Entails fs (Not j) → ¬ AllByRecursion (λ j. ¬ Entails fs (Not j)) js
not_allowed fs js i j at follows allowed = all_get (λ j. ¬ Entails fs (Not j)) js i j allowed at follows

-- the default that is read at an index is the one of the items
pub default_there : {A : Type 0} (view : A → Default) (xs : List A) (items : List Item) (k : ℕ) (x : A) → k < length xs → map view xs ≡ defaults_of items → (d : Default) → IsDefaultAt items k d → (P : Default → Type 0) → P (view (get_or xs k x)) → P d
default_there view xs items k x less same d at P h =
    let there : slice_get (defaults_of items) k ≡ Some (view (get_or xs k x)) = ap (λ (ds : List Default). slice_get ds k) (sym same) ∙ slice_get-map_at view xs k x less in
    let is : view (get_or xs k x) ≡ d = cc in
    subst P is h

module _ (items : List Item) where
  pub there_is : {A : Type 0} (view : A → Default) (xs : List A) (k : ℕ) → k < length xs → map view xs ≡ defaults_of items → (d : Default) × IsDefaultAt items k d
  there_is view xs k less same = slice_get_below (defaults_of items) k (omega (arith, length-map xs view, ap length same))

  pub place_read : {A : Type 0} (view : A → Default) (xs : List A) (k : ℕ) (d : Default) → map view xs ≡ defaults_of items → IsDefaultAt items k d → k < length xs
  place_read view xs k d same at = omega (arith, length-map xs view, ap length same, slice_get_within (defaults_of items) k d at)

  module _ (taken all k : ℕ) (within : Within taken all) where
    pub open_inside : (b : Bool) → has taken k ≡ true → ((d : Default) × IsDefaultAt items k d) → ((d : Default) → IsDefaultAt items k d → IsTrue b ↔ (Entails (generated items all) d.pre × IsAllowedBy (generated items taken) d)) → IsTrue b ↔ IsOpenAt items taken all k
    open_inside b member there is = (
      λ holds. record { inside = λ _ d at. (is d at).0 holds; outside = λ out. absurd (true≢false (sym (within k member) ∙ out)) },
      λ stays. (is there.0 there.1).1 (stays.inside member there.0 there.1),
    )

    pub open_undecided : has taken k ≡ false → has all k ≡ true → IsOpenAt items taken all k
    open_undecided out member = record {
      inside = λ taken_in. absurd (true≢false (sym taken_in ∙ out));
      outside = λ all_out. absurd (true≢false (sym member ∙ all_out));
    }

    pub open_outside : (b : Bool) → has taken k ≡ false → has all k ≡ false → ((d : Default) × IsDefaultAt items k d) → ((d : Default) → IsDefaultAt items k d → IsTrue b ↔ (Entails (generated items taken) d.pre × IsAllowedBy (generated items all) d)) → IsTrue (not b) ↔ IsOpenAt items taken all k
    open_outside b out all_out there is = (to b is, from b is)
      where
        to : (c : Bool) → ((d : Default) → IsDefaultAt items k d → IsTrue c ↔ (Entails (generated items taken) d.pre × IsAllowedBy (generated items all) d)) → IsTrue (not c) → IsOpenAt items taken all k
        to true same e = absurd (true≢false (sym e))
        to false same e = record { inside = λ member. absurd (true≢false (sym member ∙ out)); outside = λ _ d at both. true≢false (sym ((same d at).1 both)) }

        from : (c : Bool) → ((d : Default) → IsDefaultAt items k d → IsTrue c ↔ (Entails (generated items taken) d.pre × IsAllowedBy (generated items all) d)) → IsOpenAt items taken all k → IsTrue (not c)
        from true same stays = absurd (stays.outside all_out there.0 there.1 ((same there.0 there.1).0 refl))
        from false same stays = refl

-- ---- sets of what is left
module _ (set part k : ℕ) (left : has (minus set part) k ≡ true) where
  fewer_within : Within (minus set (union part (single k))) (minus set part)
  fewer_within j member = let (inside, out) = in_minus set (union part (single k)) j member in has-minus set part j ∙ rw (inside, outside_larger part (union part (single k)) j (within_union_left part (single k)) out) refl

  pub left_smaller : size (minus set (union part (single k))) < size (minus set part)
  left_smaller = size-less (minus set part) (minus set (union part (single k))) k fewer_within left
      (let taken : has (union part (single k)) k ≡ true = (in_with part k k).1 (inr refl) in has-minus set (union part (single k)) k ∙ rw ((in_minus set part k left).0, taken) refl)

  without_within : Within (minus (minus set (single k)) part) (minus set part)
  without_within j member = let (inside, out) = in_minus (minus set (single k)) part j member in has-minus set part j ∙ rw (minus_within set (single k) j inside, out) refl

  pub left_smaller_out : size (minus (minus set (single k)) part) < size (minus set part)
  left_smaller_out = size-less (minus set part) (minus (minus set (single k)) part) k without_within left
      (has-minus (minus set (single k)) part k ∙ rw (has-without_itself set k) refl)

-- the only set below a leaf is its own
pub only_itself : (items : List Item) (set other : ℕ) → IsBelow set set other → Generates items other → Generates items set
only_itself items set other below generates = subst (Generates items) (within_antisymmetric other set below.1 below.0) generates

-- ---- beliefs, one after the other
pub shows_none : (b : BeliefSet) → Shows b [] 0
shows_none b k = (λ h. absurd (true≢false (sym h ∙ has-empty k)), λ h. absurd (let impossible : None ≡ Some h.0 = h.1 in cc))

module _ (b : BeliefSet) (ps : List Formula) (p : Formula) (view : ℕ) (shown : Shows b ps view) where
  pub shows_more : Believes b p → Shows b (ps ++ p ∷ []) (union view (single (length ps)))
  shows_more believed k = (
    λ member. elim ((in_with view (length ps) k).0 member) [
      | inl old ↦ (let h = (shown k).0 old in (h.0, slice_get_kept ps (p ∷ []) k h.0 h.1, h.2))
      | inr same ↦ (p, slice_get_seam ps p [] k same, believed)
    ],
    λ h. (in_with view (length ps) k).1 (elim (slice_get_push_at ps p k h.0 h.1) as (λ _. (has view k ≡ true) ⊎ (k ≡ length ps)) [
      | inl old ↦ inl ((shown k).1 (h.0, old, h.2))
      | inr same ↦ inr same.0
    ]),
  )

  pub shows_same : ¬ Believes b p → Shows b (ps ++ p ∷ []) view
  shows_same never k = (
    λ member. (let h = (shown k).0 member in (h.0, slice_get_kept ps (p ∷ []) k h.0 h.1, h.2)),
    λ h. elim (slice_get_push_at ps p k h.0 h.1) as (λ _. has view k ≡ true) [
      | inl old ↦ (shown k).1 (h.0, old, h.2)
      | inr same ↦ absurd (never (subst (Believes b) same.1 h.2))
    ],
  )

module _ {A : Type 0} (seen : A → Formula) (b : BeliefSet) (xs : List A) (i view : ℕ) (x : A) (less : i < length xs) (is : x ≡ get_or xs i x) (shown : Shows b (map seen (take i xs)) view) where
  next_seen : map seen (take (i + 1) xs) ≡ map seen (take i xs) ++ seen x ∷ []
  next_seen = map_more seen xs i x less ∙ ap (λ (y : A). map seen (take i xs) ++ seen y ∷ []) (sym is)

  seen_before : length (map seen (take i xs)) ≡ i
  seen_before = omega (arith, length-map (take i xs) seen, length-take-le i xs (omega arith))

  pub seen_more : Believes b (seen x) → Shows b (map seen (take (i + 1) xs)) (union view (single i))
  seen_more believed = subst (λ (ps : List Formula). Shows b ps (union view (single i))) (sym next_seen)
      (subst (λ (n : ℕ). Shows b (map seen (take i xs) ++ seen x ∷ []) (union view (single n))) seen_before (shows_more b (map seen (take i xs)) (seen x) view shown believed))

  pub seen_same : ¬ Believes b (seen x) → Shows b (map seen (take (i + 1) xs)) view
  seen_same never = subst (λ (ps : List Formula). Shows b ps view) (sym next_seen) (shows_same b (map seen (take i xs)) (seen x) view shown never)
