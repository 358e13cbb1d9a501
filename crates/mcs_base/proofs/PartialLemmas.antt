-- Unions and restrictions of partial states are partial states; two fit where an equation holds.
use Rattle.std.specs.Prelude.{◌≡◌, ℕ}
use Rattle.std.proofs.Common.{ap, arith, inl, inr, ◌⊎◌, ◌∙◌}
use Rattle.std.proofs.lemmas.Bool.{cases_eq}
use Rattle.mcs_sets.specs.Sets.{has, common, Within}
use Rattle.mcs_sets.proofs.Lattice.{unions_within, commons_within}
use Rattle.mcs_sets.proofs.SetLemmas.{has-common, same_set, union_of_64, common_of_64}
use Rattle.mcs_base.specs.Partials.{PartialState, IsPartial, Fits, united, restricted}

pub united-partial : (s t : PartialState) → IsPartial s → IsPartial t → IsPartial (united s t)
united-partial s t hs ht = record {
  of_mask = unions_within s.values t.values s.mask t.mask hs.of_mask ht.of_mask;
  small = union_of_64 s.mask t.mask hs.small ht.small;
}

pub restricted-partial : (s : PartialState) (set : ℕ) → IsPartial s → IsPartial (restricted s set)
restricted-partial s set hs = record {
  of_mask = commons_within s.values set s.mask set hs.of_mask (λ k is. is);
  small = common_of_64 s.mask set hs.small;
}

pub fits-where : (s t : PartialState) → IsPartial s → IsPartial t → Fits s t → common s.values t.mask ≡ common t.values s.mask
fits-where s t hs ht h = same_set _ _ (λ k. let a = hs.of_mask k in let b = ht.of_mask k in let c = h k in grind (arith, has-common))

pub where-fits : (s t : PartialState) → common s.values t.mask ≡ common t.values s.mask → Fits s t
where-fits s t e k in_first in_second = let same : has (common s.values t.mask) k ≡ has (common t.values s.mask) k = ap (λ x. has x k) e in grind (arith, has-common)

-- ---- what another state speaks of is kept
pub fits_kept : (s t : PartialState) (keep : ℕ) → Within t.mask keep → Fits s t → Fits (restricted s keep) t
fits_kept s t keep within fit v in_s in_t = let is = within v in_t in let same = fit v in grind (arith, has-common)

pub fits_whole : (s t : PartialState) (keep : ℕ) → Within t.mask keep → Fits (restricted s keep) t → Fits s t
fits_whole s t keep within fit v in_s in_t = let is = within v in_t in let same = fit v in grind (arith, has-common)

-- ---- decisions
pub cases_state : (s t : PartialState) → (s ≡ t) ⊎ ¬ (s ≡ t)
cases_state s t = elim (cases_eq s.mask t.mask) [
  | inr differ ↦ inr (λ e. differ (ap (λ (u : PartialState). u.mask) e))
  | inl masks ↦ elim (cases_eq s.values t.values) [
    | inr differ ↦ inr (λ e. differ (ap (λ (u : PartialState). u.values) e))
    | inl values ↦ inl (ap (λ (m : ℕ). let u : PartialState = record { mask = m; values = s.values } in u) masks ∙ ap (λ (v : ℕ). let u : PartialState = record { mask = t.mask; values = v } in u) values)
  ]
]

-- two states fit where they have the same values on what both have
pub cases_fit : (s t : PartialState) → Fits s t ⊎ ¬ Fits s t
cases_fit s t = elim (cases_eq (common s.values both) (common t.values both)) [
  | inl e ↦ inl (λ v in_s in_t. let same : has (common s.values both) v ≡ has (common t.values both) v = ap (λ x. has x v) e in grind (arith, has-common))
  | inr differ ↦ inr (λ fit. differ (same_set _ _ (λ v. let same = fit v in grind (arith, has-common))))
]
  where
    both : ℕ
    both = common s.mask t.mask
