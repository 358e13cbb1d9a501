-- Berge's rule: the minimal transversals of one edge more come of those of the edges before.
use Rattle.std.proofs.Common.{◌≡◌, ℕ, ◌+◌, ◌<◌, ◌≤◌, suc, true, List, [], ◌∷◌, ◌++◌, ◌⊎◌, ◌↔◌, inl, inr, length, get_or, drop, refl, sym, ap, ◌∙◌, subst, true≢false, arith}
use Rattle.std.proofs.lemmas.List.{drop_more, drop_all}
use Rattle.std.specs.List.{AllByRecursion}
use Rattle.mcs_sets.specs.Sets.{has, single, union, members, Within, Meets}
use Rattle.mcs_sets.proofs.SetLemmas.{below_power, meets_or_not}
use Rattle.mcs_sets.proofs.Lattice.{has-single_itself, in_with, within_union_left, within_union_right, with_within, meets_within, within_antisymmetric, none_within}
use Rattle.mcs_base.specs.Listings.{IsAmong}
use Rattle.mcs_base.specs.Minimal.{IsMinimal}
use Rattle.mcs_base.proofs.ListingLemmas.{members_listing}
use Rattle.mcs_base.specs.Transversals.{IsTransversalOf}
use Rattle.mcs_base.proofs.Each.{all_among, all_from_among, all_weaker, all_left, all_right, all_push}
use Rattle.mcs_base.proofs.Among.{among_push}
use Rattle.mcs_transversal.specs.Transversals.{IsCritical, IsGrownByMark, ComesOf, ComesOfOne}
use Rattle.mcs_transversal.proofs.CriticalLemmas.{minimal_from_critical, critical_from_minimal, minimal_within}

module _ (edges : List ℕ) (e : ℕ) where
  comes_of_minimal : (x : ℕ) → IsMinimal (IsTransversalOf (edges ++ e ∷ [])) x → (t : ℕ) × IsMinimal (IsTransversalOf edges) t × ComesOf (edges ++ e ∷ []) e x t
  comes_of_minimal x minimal =
      let (t, least, within) = minimal_within (suc x) edges x (omega arith) (all_left (Meets x) edges (e ∷ []) minimal.one) in (
        t,
        least,
        elim (meets_or_not t e t (below_power t)) [
          | inl meets ↦ inl (meets, sym (minimal.least t (all_push (Meets t) edges e least.one meets) within))
          | inr none ↦ inr (λ meets. true≢false (sym meets.in_second ∙ none meets.member meets.in_first), grown t least within)
        ],
      )
    where
      grown : (t : ℕ) → IsMinimal (IsTransversalOf edges) t → Within t x → IsGrownByMark (edges ++ e ∷ []) e t x
      grown t least within =
          let meets = (all_right (Meets x) edges (e ∷ []) minimal.one).0 in
          let m : ℕ = meets.member in
          record {
            mark = m;
            in_edge = meets.in_second;
            with_mark = sym (minimal.least (union t (single m))
                (all_push (Meets _) edges e (all_weaker (Meets t) (Meets _) (λ f. meets_within t _ f (within_union_left t (single m))) edges least.one) (record { member = m; in_first = within_union_right t (single m) m (has-single_itself m); in_second = meets.in_second }))
                (with_within t m x within meets.in_first));
            critical = critical_from_minimal (edges ++ e ∷ []) x minimal;
          }

  minimal_from_source : (x t : ℕ) → IsMinimal (IsTransversalOf edges) t → ComesOf (edges ++ e ∷ []) e x t → IsMinimal (IsTransversalOf (edges ++ e ∷ [])) x
  minimal_from_source x t least (inl (meets, same)) = rw same (record {
    one = all_push (Meets t) edges e least.one meets;
    least = λ s other within. least.least s (all_left (Meets s) edges (e ∷ []) other) within;
  })
  minimal_from_source x t least (inr (none, g)) = minimal_from_critical (edges ++ e ∷ []) x
      (rw g.with_mark (all_push (Meets _) edges e (all_weaker (Meets t) (Meets _) (λ f. meets_within t _ f (within_union_left t (single g.mark))) edges least.one) (record { member = g.mark; in_first = within_union_right t (single g.mark) g.mark (has-single_itself g.mark); in_second = g.in_edge })))
      g.critical

  -- where the one list has exactly the minimal transversals of the edges before, what comes of them is those of all
  pub berge : (ts xs : List ℕ) → ((x : ℕ) → IsAmong x ts ↔ IsMinimal (IsTransversalOf edges) x) → ((x : ℕ) → IsAmong x xs ↔ ComesOfOne (edges ++ e ∷ []) e ts x) → (x : ℕ) → IsAmong x xs ↔ IsMinimal (IsTransversalOf (edges ++ e ∷ [])) x
  berge ts xs before comes x = (
    λ among. let one = (comes x).0 among in minimal_from_source x one.source ((before one.source).0 one.among) one.comes,
    λ minimal. let (t, least, from) = comes_of_minimal x minimal in (comes x).1 (record { source = t; among = (before t).1 least; comes = from }),
  )

-- ---- what grows, told by the minimal transversals of the edges before
-- none of the sets that meet e lies within the grown one
abbrev pub NoneWithin : ℕ → ℕ → List ℕ → Type 0
NoneWithin e grown ts = AllByRecursion (λ s. Meets s e → ¬ Within s grown) ts

module _ (edges : List ℕ) (e t m : ℕ) (ts : List ℕ) (before : (x : ℕ) → IsAmong x ts ↔ IsMinimal (IsTransversalOf edges) x) (here : IsAmong t ts) (apart : ¬ Meets t e) (in_edge : has e m ≡ true) where
  own : IsMinimal (IsTransversalOf edges) t
  own = (before t).0 here

  abbrev grown : ℕ
  grown = union t (single m)

  met : IsTransversalOf (edges ++ e ∷ []) (union t (single m))
  met = all_push (Meets grown) edges e (all_weaker (Meets t) (Meets grown) (λ f. meets_within t grown f (within_union_left t (single m))) edges own.one)
      (record { member = m; in_first = within_union_right t (single m) m (has-single_itself m); in_second = in_edge })

  pub critical_from_none : NoneWithin e (union t (single m)) ts → IsCritical (edges ++ e ∷ []) (union t (single m))
  critical_from_none none = critical_from_minimal (edges ++ e ∷ []) grown (record { one = met; least = λ s other within. within_antisymmetric s grown within (covers s other within) })
    where
      -- a mark that the set has in common with the edge is the new one
      new : (s : ℕ) → Within s grown → Meets s e → has s m ≡ true
      new s within meets = elim ((in_with t m meets.member).0 (within meets.member meets.in_first)) [
        | inl old ↦ absurd (apart (record { member = meets.member; in_first = old; in_second = meets.in_second }))
        | inr same ↦ ap (has s) (sym same) ∙ meets.in_first
      ]

      -- a minimal one within a smaller transversal is t
      same_as : (r : ℕ) → IsMinimal (IsTransversalOf edges) r → Within r grown → r ≡ t
      same_as r minimal within = elim (meets_or_not r e r (below_power r)) [
        | inl meets ↦ absurd (all_among (λ s. Meets s e → ¬ Within s grown) ts r none ((before r).1 minimal) meets within)
        | inr free ↦ own.least r minimal.one (λ k in_r. elim ((in_with t m k).0 (within k in_r)) [
          | inl old ↦ old
          | inr last ↦ absurd (true≢false (sym in_edge ∙ ap (has e) (sym last) ∙ free k in_r))
        ])
      ]

      covers : (s : ℕ) → IsTransversalOf (edges ++ e ∷ []) s → Within s grown → Within grown s
      covers s other within k in_grown =
          let (r, minimal, inside) = minimal_within (suc s) edges s (omega arith) (all_left (Meets s) edges (e ∷ []) other) in
          let same : r ≡ t = same_as r minimal (λ j in_r. within j (inside j in_r)) in
          elim ((in_with t m k).0 in_grown) [
            | inl old ↦ inside k (ap (λ x. has x k) same ∙ old)
            | inr last ↦ ap (has s) last ∙ new s within (all_right (Meets s) edges (e ∷ []) other).0
          ]

  pub none_from_critical : IsCritical (edges ++ e ∷ []) (union t (single m)) → NoneWithin e (union t (single m)) ts
  none_from_critical critical = all_from_among (λ s. Meets s e → ¬ Within s grown) ts (λ s among meets within.
      let minimal = minimal_from_critical (edges ++ e ∷ []) grown met critical in
      let other = (before s).0 among in
      let same : s ≡ grown = minimal.least s (all_push (Meets s) edges e other.one meets) within in
      let as_t : t ≡ s = other.least t own.one (λ k in_t. ap (λ x. has x k) same ∙ within_union_left t (single m) k in_t) in
      apart (record { member = m; in_first = ap (λ x. has x m) (as_t ∙ same) ∙ within_union_right t (single m) m (has-single_itself m); in_second = in_edge }))

pub none_before : (x : ℕ) → IsAmong x (0 ∷ []) ↔ IsMinimal (IsTransversalOf []) x
none_before x = (
  λ among. elim among [ inl e ↦ rw e (record { one = tt; least = λ s all within. within_antisymmetric s 0 within (none_within s) }) | inr h ↦ absurd h ],
  λ minimal. inl (sym (minimal.least 0 tt (none_within x))),
)

-- ---- the loops that put in what comes of the sets
pub comes-kept : (edges out : List ℕ) (e t : ℕ) → Meets t e → (x : ℕ) → IsAmong x (out ++ t ∷ []) ↔ (IsAmong x out ⊎ ComesOf edges e x t)
comes-kept edges out e t meets x = let both = among_push x out t in (
  λ h. elim (both.0 h) [ inl a ↦ inl a | inr same ↦ inr (inl (meets, same)) ],
  λ h. both.1 (elim h [ inl a ↦ inl a | inr comes ↦ inr (elim comes [ inl kept ↦ kept.1 | inr grown ↦ absurd (grown.0 meets) ]) ]),
)

-- x is t and one of the marks, and each mark of x has a critical edge
pub record GrowsBy (edges : List ℕ) (t : ℕ) (marks : List ℕ) (x : ℕ) : Type 0 where
  pub mark : ℕ
  pub among : IsAmong mark marks
  pub with_mark : x ≡ union t (single mark)
  pub critical : IsCritical edges x

pub grows-end : (edges out : List ℕ) (t x : ℕ) → (IsAmong x out ⊎ GrowsBy edges t [] x) ↔ IsAmong x out
grows-end edges out t x = (λ h. elim h [ inl a ↦ a | inr g ↦ absurd g.among ], λ a. inl a)

pub grows-more : (edges out : List ℕ) (t m : ℕ) (rest : List ℕ) → IsCritical edges (union t (single m)) → (x : ℕ)
    → (IsAmong x out ⊎ GrowsBy edges t (m ∷ rest) x) ↔ (IsAmong x (out ++ union t (single m) ∷ []) ⊎ GrowsBy edges t rest x)
grows-more edges out t m rest critical x = let both = among_push x out (union t (single m)) in (
  λ h. elim h [ inl a ↦ inl (both.1 (inl a)) | inr g ↦ at g g.among ],
  λ h. elim h [
    | inl a ↦ elim (both.0 a) [ inl a' ↦ inl a' | inr same ↦ inr (record { mark = m; among = inl refl; with_mark = same; critical = subst (IsCritical edges) (sym same) critical }) ]
    | inr g ↦ inr (record { mark = g.mark; among = inr g.among; with_mark = g.with_mark; critical = g.critical })
  ],
)
  where
    at : (g : GrowsBy edges t (m ∷ rest) x) → (g.mark ≡ m) ⊎ IsAmong g.mark rest → IsAmong x (out ++ union t (single m) ∷ []) ⊎ GrowsBy edges t rest x
    at g (inl same) = inl ((among_push x out (union t (single m))).1 (inr (g.with_mark ∙ ap (λ k. union t (single k)) same)))
    at g (inr later) = inr (record { mark = g.mark; among = later; with_mark = g.with_mark; critical = g.critical })

pub grows-skip : (edges out : List ℕ) (t m : ℕ) (rest : List ℕ) → ¬ IsCritical edges (union t (single m)) → (x : ℕ)
    → (IsAmong x out ⊎ GrowsBy edges t (m ∷ rest) x) ↔ (IsAmong x out ⊎ GrowsBy edges t rest x)
grows-skip edges out t m rest not x = (
  λ h. elim h [ inl a ↦ inl a | inr g ↦ at g g.among ],
  λ h. elim h [ inl a ↦ inl a | inr g ↦ inr (record { mark = g.mark; among = inr g.among; with_mark = g.with_mark; critical = g.critical }) ],
)
  where
    at : (g : GrowsBy edges t (m ∷ rest) x) → (g.mark ≡ m) ⊎ IsAmong g.mark rest → IsAmong x out ⊎ GrowsBy edges t rest x
    at g (inl same) = absurd (not (subst (IsCritical edges) (g.with_mark ∙ ap (λ k. union t (single k)) same) g.critical))
    at g (inr later) = inr (record { mark = g.mark; among = later; with_mark = g.with_mark; critical = g.critical })

pub grows-all : (edges out : List ℕ) (e t : ℕ) → ¬ Meets t e → (x : ℕ) → (IsAmong x out ⊎ GrowsBy edges t (members e) x) ↔ (IsAmong x out ⊎ ComesOf edges e x t)
grows-all edges out e t none x = (
  λ h. elim h [ inl a ↦ inl a | inr g ↦ inr (inr (none, record { mark = g.mark; in_edge = ((members_listing e).exactly g.mark).0 g.among; with_mark = g.with_mark; critical = g.critical })) ],
  λ h. elim h [ inl a ↦ inl a | inr comes ↦ inr (elim comes [ inl kept ↦ absurd (none kept.0) | inr grown ↦ from grown.1 ]) ],
)
  where
    from : IsGrownByMark edges e t x → GrowsBy edges t (members e) x
    from g = record { mark = g.mark; among = ((members_listing e).exactly g.mark).1 g.in_edge; with_mark = g.with_mark; critical = g.critical }

-- the next set of the list
pub comes-more : (edges out out' : List ℕ) (e : ℕ) (ts : List ℕ) (i t : ℕ) → i < length ts → t ≡ get_or ts i t → ((x : ℕ) → IsAmong x out' ↔ (IsAmong x out ⊎ ComesOf edges e x t)) → (x : ℕ)
    → (IsAmong x out ⊎ ComesOfOne edges e (drop i ts) x) ↔ (IsAmong x out' ⊎ ComesOfOne edges e (drop (i + 1) ts) x)
comes-more edges out out' e ts i t less is put x = rw (drop_more ts i t less) (
  λ h. elim h [ inl a ↦ inl ((put x).1 (inl a)) | inr one ↦ at one.source one.comes one.among ],
  λ h. elim h [
    | inl a ↦ elim ((put x).0 a) [ inl a' ↦ inl a' | inr comes ↦ inr (record { source = t; among = inl is; comes = comes }) ]
    | inr one ↦ inr (record { source = one.source; among = inr one.among; comes = one.comes })
  ],
)
  where
    at : (s : ℕ) → ComesOf edges e x s → (s ≡ get_or ts i t) ⊎ IsAmong s (drop (i + 1) ts) → IsAmong x out' ⊎ ComesOfOne edges e (drop (i + 1) ts) x
    at s comes (inl same) = inl ((put x).1 (inr (subst (ComesOf edges e x) (same ∙ sym is) comes)))
    at s comes (inr later) = inr (record { source = s; among = later; comes = comes })

pub comes-end : (edges out : List ℕ) (e : ℕ) (ts : List ℕ) (i x : ℕ) → length ts ≤ i → (IsAmong x out ⊎ ComesOfOne edges e (drop i ts) x) ↔ IsAmong x out
comes-end edges out e ts i x past = rw (drop_all i ts past) (λ h. elim h [ inl a ↦ a | inr one ↦ absurd one.among ], λ a. inl a)
