-- Which sets are near those of a list: few changes make them of these, one change after the other.
use Rattle.std.proofs.Common.{◌≡◌, ℕ, ◌+◌, ◌<◌, suc, true, List, [], ◌∷◌, length, take, get_or, refl, sym, ap, ◌∙◌, subst, inl, inr, ◌⊎◌, ◌↔◌, arith, true≢false}
use Rattle.std.proofs.lemmas.Bool.{and_from}
use Rattle.std.specs.List.{AllByRecursion}
use Rattle.mcs_sets.specs.Sets.{has, single, union, common, minus, members, size, Within}
use Rattle.mcs_sets.proofs.SetLemmas.{has-common, has-minus}
use Rattle.mcs_sets.proofs.Lattice.{minus-minus, minus_itself, minus-union_back, in_common, in_minus, in_with, has-without_itself, within_antisymmetric, single_within, with_within, minus_within, no_member_of_none, none_from_size, size-none, size_within, size-without}
use Rattle.mcs_sets.proofs.Changes.{within_where_none, some_member, size-with, with_without, swap-minus, fewer_left, fewer_missing, beside_more, not_same}
use Rattle.mcs_base.specs.Listings.{IsAmong, IsAscending, IsListing}
use Rattle.mcs_base.proofs.Among.{among_take_more}
use Rattle.mcs_base.proofs.Each.{all_among}
use Rattle.mcs_base.proofs.ListingLemmas.{members_listing}
use Rattle.mcs_base.proofs.SetParts.{minus_less}
use Rattle.mcs_import.specs.Near.{IsNear, IsMadeBy, IsChanged, IsNextNear}
use Rattle.mcs_base.proofs.Walks.{AreLevels, IsReached, walk_begins}

-- ---- one change nearer, or further
module _ (rules removable forcible : ℕ) (sets : List ℕ) (inside : AllByRecursion (λ s. Within s rules) sets) where
  abbrev pub Near : ℕ → ℕ → Type 0
  Near level x = IsNear rules removable forcible sets level x

  abbrev pub Step : ℕ → ℕ → Type 0
  Step s x = IsChanged removable (common forcible rules) s x

  abbrev pub near_listed : (x : ℕ) → IsAmong x sets → Near 0 x
  near_listed x among = record {
    of_rules = all_among (λ s. Within s rules) sets x inside among;
    set = x;
    listed = among;
    removed = λ k is. absurd (no_member_of_none (minus x x) (minus_itself x) k is);
    forced = λ k is. absurd (no_member_of_none (minus x x) (minus_itself x) k is);
    near = let e = ap (λ (s : ℕ). size s) (minus_itself x) in omega (arith, e, size-none);
  }

  listed_near : (x : ℕ) → Near 0 x → IsAmong x sets
  listed_near x h = subst (λ (s : ℕ). IsAmong s sets) (within_antisymmetric h.set x
      (within_where_none h.set x (none_from_size (minus h.set x) (omega (arith, h.near))))
      (within_where_none x h.set (none_from_size (minus x h.set) (omega (arith, h.near))))) h.listed

  abbrev pub near_without : (n m y r : ℕ) → n < m → Near n y → has removable r ≡ true → Near m (minus y (single r))
  near_without n m y r less h may = record {
    of_rules = λ k is. h.of_rules k (minus_within y (single r) k is);
    set = h.set;
    listed = h.listed;
    removed = λ k is. elim (minus_less h.set y r k is) [ inl old ↦ h.removed k old | inr same ↦ ap (λ (j : ℕ). has removable j) same ∙ may ];
    forced = λ k is. h.forced k (fewer_left y h.set (single r) k is);
    near = omega (
      arith,
      less,
      h.near,
      size_within (minus h.set (minus y (single r))) (union (minus h.set y) (single r)) (λ k is. (in_with (minus h.set y) r k).1 (minus_less h.set y r k is)),
      size-with (minus h.set y) r,
      size_within (minus (minus y (single r)) h.set) (minus y h.set) (fewer_left y h.set (single r)),
    );
  }

  abbrev pub near_with : (n m y r : ℕ) → n < m → Near n y → has forcible r ≡ true → has rules r ≡ true → Near m (union y (single r))
  near_with n m y r less h may known = record {
    of_rules = with_within y r rules h.of_rules known;
    set = h.set;
    listed = h.listed;
    removed = λ k is. h.removed k (fewer_missing h.set y (single r) k is);
    forced = λ k is. elim (beside_more y h.set r k is) [ inl old ↦ h.forced k old | inr same ↦ ap (λ (j : ℕ). has forcible j) same ∙ may ];
    near = omega (
      arith,
      less,
      h.near,
      size_within (minus (union y (single r)) h.set) (union (minus y h.set) (single r)) (λ k is. (in_with (minus y h.set) r k).1 (beside_more y h.set r k is)),
      size-with (minus y h.set) r,
      size_within (minus h.set (union y (single r))) (minus h.set y) (fewer_missing h.set y (single r)),
    );
  }

  near_step : (n m y x : ℕ) → Step y x → n < m → Near n y → Near m x
  near_step n m y x (inl (r, is, e)) less h = subst (λ (z : ℕ). Near m z) (sym e) (near_without n m y r less h (in_common y removable r is).1)
  near_step n m y x (inr (r, is, e)) less h =
      let (may, known) = in_common forcible rules r (in_minus (common forcible rules) y r is).0 in
      subst (λ (z : ℕ). Near m z) (sym e) (near_with n m y r less h may known)

  -- a removed rule is put back
  abbrev pub put_back : (n x : ℕ) (h : Near (suc n) x) (r : ℕ) → has (minus h.set x) r ≡ true → Near n (union x (single r)) × Step (union x (single r)) x
  put_back n x h r is = (
    record {
      of_rules = with_within x r rules h.of_rules (all_among (λ s. Within s rules) sets h.set inside h.listed r member);
      set = h.set;
      listed = h.listed;
      removed = λ k is'. h.removed k (fewer_missing h.set x (single r) k is');
      forced = λ k is'. h.forced k (kept k is');
      near = omega (
        arith,
        h.near,
        size-without (minus h.set x) r is,
        ap (λ (s : ℕ). size s) (minus-minus h.set x (single r)),
        size_within (minus (union x (single r)) h.set) (minus x h.set) kept,
      );
    },
    inl (r, has-common (union x (single r)) removable r ∙ and_from _ _ ((in_with x r r).1 (inr refl)) (h.removed r is), sym (with_without x r (in_minus h.set x r is).1)),
  )
    where
      member : has h.set r ≡ true
      member = (in_minus h.set x r is).0

      kept : Within (minus (union x (single r)) h.set) (minus x h.set)
      kept k is' = elim (beside_more x h.set r k is') [
        | inl old ↦ old
        | inr same ↦ absurd (true≢false (sym member ∙ ap (λ (j : ℕ). has h.set j) (sym same) ∙ (in_minus (union x (single r)) h.set k is').1))
      ]

  -- a forced rule is taken out
  abbrev pub taken_out : (n x : ℕ) (h : Near (suc n) x) (r : ℕ) → has (minus x h.set) r ≡ true → Near n (minus x (single r)) × Step (minus x (single r)) x
  taken_out n x h r is = (
    record {
      of_rules = λ k is'. h.of_rules k (minus_within x (single r) k is');
      set = h.set;
      listed = h.listed;
      removed = λ k is'. h.removed k (kept k is');
      forced = λ k is'. h.forced k (fewer_left x h.set (single r) k is');
      near = omega (
        arith,
        h.near,
        size-without (minus x h.set) r is,
        ap (λ (s : ℕ). size s) (swap-minus x h.set (single r)),
        size_within (minus h.set (minus x (single r))) (minus h.set x) kept,
      );
    },
    inr (r, has-minus (common forcible rules) (minus x (single r)) r ∙ rw (may, has-without_itself x r) refl, sym (minus-union_back x (single r) (single_within r x member))),
  )
    where
      member : has x r ≡ true
      member = (in_minus x h.set r is).0

      may : has (common forcible rules) r ≡ true
      may = has-common forcible rules r ∙ and_from _ _ (h.forced r is) (h.of_rules r member)

      kept : Within (minus h.set (minus x (single r))) (minus h.set x)
      kept k is' = elim (minus_less h.set x r k is') [
        | inl old ↦ old
        | inr same ↦ absurd (not_same h.set k r (in_minus h.set (minus x (single r)) k is').0 (in_minus x h.set r is).1 same)
      ]

  pub near_levels : AreLevels Near Step
  near_levels = record {
    more = λ n m x less h. record { of_rules = h.of_rules; set = h.set; listed = h.listed; removed = h.removed; forced = h.forced; near = omega (arith, less, h.near) };
    onward = λ n m y x less h step. near_step n m y x step less h;
    back = λ n x h. elim (some_member (minus h.set x)) [
      | inr (r, is) ↦ let (near, step) = put_back n x h r is in inr (union x (single r), near, step)
      | inl none ↦ elim (some_member (minus x h.set)) [
        | inr (r, is) ↦ let (near, step) = taken_out n x h r is in inr (minus x (single r), near, step)
        | inl none' ↦ inl (record {
          of_rules = h.of_rules;
          set = h.set;
          listed = h.listed;
          removed = h.removed;
          forced = h.forced;
          near = omega (arith, ap (λ (s : ℕ). size s) none, ap (λ (s : ℕ). size s) none', size-none);
        })
      ]
    ];
  }

  pub near_begins : IsAscending (λ (a b : ℕ). a < b) sets → (reached front : List ℕ) → reached ≡ sets → front ≡ sets → IsReached Near Step 0 reached front
  near_begins up reached front is is' = walk_begins Near Step reached front
      (subst (IsListing (Near 0) (λ (a b : ℕ). a < b)) (sym is) (record { exactly = λ x. (near_listed x, listed_near x); ascending = up }))
      (is' ∙ sym is)

-- ---- what a loop over rules adds
abbrev pub IsAdded : (ℕ → ℕ) → List ℕ → List ℕ → List ℕ → ℕ → Type 0
IsAdded change reached rs found x = IsAmong x found ⊎ ((r : ℕ) × IsAmong r rs × (x ≡ change r) × (¬ IsAmong x reached))

pub added_step : (change : ℕ → ℕ) (reached : List ℕ) (r : ℕ) (rs found next : List ℕ) (s : ℕ) → s ≡ change r → ((x : ℕ) → IsAmong x next ↔ (IsAmong x found ⊎ ((x ≡ s) × (¬ IsAmong x reached))))
    → (x : ℕ) → IsAdded change reached rs next x ↔ IsAdded change reached (r ∷ rs) found x
added_step change reached r rs found next s is told x = (to, from)
  where
    to : IsAdded change reached rs next x → IsAdded change reached (r ∷ rs) found x
    to (inl here) = elim ((told x).0 here) [ inl old ↦ inl old | inr (e, new) ↦ inr (r, inl refl, e ∙ is, new) ]
    to (inr (q, later, e, new)) = inr (q, inr later, e, new)

    from : IsAdded change reached (r ∷ rs) found x → IsAdded change reached rs next x
    from (inl here) = inl ((told x).1 (inl here))
    from (inr (q, inl same, e, new)) = inl ((told x).1 (inr (e ∙ ap change same ∙ sym is, new)))
    from (inr (q, inr later, e, new)) = inr (q, later, e, new)

pub added_end : (change : ℕ → ℕ) (reached : List ℕ) (rules : ℕ) (old found : List ℕ) → ((x : ℕ) → IsAdded change reached [] found x ↔ IsAdded change reached (members rules) old x)
    → (x : ℕ) → IsAmong x found ↔ (IsAmong x old ⊎ (IsMadeBy change rules x × (¬ IsAmong x reached)))
added_end change reached rules old found told x = (λ h. to ((told x).0 (inl h)), λ h. back ((told x).1 (from h)))
  where
    to : IsAdded change reached (members rules) old x → IsAmong x old ⊎ (IsMadeBy change rules x × (¬ IsAmong x reached))
    to (inl here) = inl here
    to (inr (r, member, e, new)) = inr ((r, ((members_listing rules).exactly r).0 member, e), new)

    from : IsAmong x old ⊎ (IsMadeBy change rules x × (¬ IsAmong x reached)) → IsAdded change reached (members rules) old x
    from (inl here) = inl here
    from (inr ((r, is, e), new)) = inr (r, ((members_listing rules).exactly r).1 is, e, new)

    back : IsAdded change reached [] found x → IsAmong x found
    back (inl here) = here
    back (inr (r, none, e, new)) = absurd none

-- ---- one set more
-- the same by the same sets
pub next_same : (removable f f' : ℕ) (sets sets' reached reached' next : List ℕ) → f ≡ f' → sets ≡ sets' → reached ≡ reached' → ((x : ℕ) → IsAmong x next ↔ IsNextNear removable f sets reached x) → (x : ℕ) → IsAmong x next ↔ IsNextNear removable f' sets' reached' x
next_same removable f f' sets sets' reached reached' next e e' e'' told x =
    subst (λ (z : ℕ). IsAmong x next ↔ IsNextNear removable z sets' reached' x) e
    (subst (λ (ys : List ℕ). IsAmong x next ↔ IsNextNear removable f ys reached' x) e'
    (subst (λ (ys : List ℕ). IsAmong x next ↔ IsNextNear removable f sets ys x) e'' (told x)))

pub next_step : (removable forcible : ℕ) (sets reached : List ℕ) (k s : ℕ) → k < length sets → s ≡ get_or sets k s → (next middle after : List ℕ) (gone come : ℕ) → gone ≡ common s removable → come ≡ minus forcible s
    → ((x : ℕ) → IsAmong x next ↔ IsNextNear removable forcible (take k sets) reached x)
    → ((x : ℕ) → IsAmong x middle ↔ (IsAmong x next ⊎ (IsMadeBy (λ r. minus s (single r)) gone x × (¬ IsAmong x reached))))
    → ((x : ℕ) → IsAmong x after ↔ (IsAmong x middle ⊎ (IsMadeBy (λ r. union s (single r)) come x × (¬ IsAmong x reached))))
    → (x : ℕ) → IsAmong x after ↔ IsNextNear removable forcible (take (k + 1) sets) reached x
next_step removable forcible sets reached k s less is next middle after gone come gone_is come_is old first second x = (to, from)
  where
    to : IsAmong x after → IsNextNear removable forcible (take (k + 1) sets) reached x
    to h = elim ((second x).0 h) [
      | inr ((r, here, e), new) ↦ (s, (among_take_more sets k s less is s).1 (inr refl), inr (r, subst (λ (z : ℕ). has z r ≡ true) come_is here, e), new)
      | inl h' ↦ elim ((first x).0 h') [
        | inr ((r, here, e), new) ↦ (s, (among_take_more sets k s less is s).1 (inr refl), inl (r, subst (λ (z : ℕ). has z r ≡ true) gone_is here, e), new)
        | inl h'' ↦ let (t, there, step, new) = (old x).0 h'' in (t, (among_take_more sets k s less is t).1 (inl there), step, new)
      ]
    ]

    now : IsChanged removable forcible s x → ¬ IsAmong x reached → IsAmong x after
    now (inl (r, here, e)) new = (second x).1 (inl ((first x).1 (inr ((r, subst (λ (z : ℕ). has z r ≡ true) (sym gone_is) here, e), new))))
    now (inr (r, here, e)) new = (second x).1 (inr ((r, subst (λ (z : ℕ). has z r ≡ true) (sym come_is) here, e), new))

    from : IsNextNear removable forcible (take (k + 1) sets) reached x → IsAmong x after
    from (t, there, step, new) = elim ((among_take_more sets k s less is t).0 there) [
      | inl before ↦ (second x).1 (inl ((first x).1 (inl ((old x).1 (t, before, step, new)))))
      | inr same ↦ now (subst (λ (z : ℕ). IsChanged removable forcible z x) same step) new
    ]
