-- What forgetting leaves of the rows that a table presents; joining after forgetting, and forgetting after joining.
use Rattle.std.proofs.Common.{◌≡◌, ◌≤◌, ℕ, map, refl, sym, ap, ◌∙◌, subst, ◌↔◌, IsTrue}
use Rattle.mcs_sets.specs.Sets.{has, union, common, size, Within}
use Rattle.mcs_sets.proofs.Lattice.{common-union_within}
use Rattle.mcs_base.specs.Listings.{IsAmong}
use Rattle.mcs_base.specs.Partials.{PartialState, Fits, restricted}
use Rattle.mcs_base.proofs.ListingLemmas.{same_listing, IsListing-same}
use Rattle.mcs_base.proofs.Numbered.{common_assoc}
use Rattle.mcs_base.proofs.PartialLemmas.{fits_kept, fits_whole}
use Rattle.mcs_table.specs.declared.row.Row.{Row}
use Rattle.mcs_table.specs.RowOrder.{RowBefore, same_row}
use Rattle.mcs_table.specs.Tables.{Covers, TableData, IsTable, IsRestriction, IsMinimalRow, IsForgetting, united_row, restricted_row}
use Rattle.mcs_table.specs.Joins.{ForgettingCommutes, ForgettingIsOne, ForgettingTwiceIsOnce}
use Rattle.mcs_table.specs.Elimination.{IsRestrictionOf}
use Rattle.mcs_table.proofs.OrderLemmas.{RowBefore-asymmetric}
use Rattle.mcs_table.proofs.JoinLemmas.{row_of, minimal_as}
use Rattle.mcs_table.proofs.ForgetLemmas.{restrictions}
use Rattle.mcs_table.proofs.CoverLemmas.{Covers-trans, covers_same, minimal_covers}
use Rattle.mcs_table.proofs.JointLemmas.{IsUnionOf, Presents, join_presents, covers_listing, covers_alike, presents_alike}
use Rattle.mcs_table.proofs.OrderFreeLemmas.{table_is}

restriction_covers : (S : Row → Type 0) (a : TableData) (keep : ℕ) → Covers (λ r. IsAmong r a.rows) S → Covers (IsRestriction a.rows keep) (IsRestrictionOf S keep)
restriction_covers S a keep c = record {
  from = λ r u. record { row = u.row; holds = c.from u.row u.among; is = u.is };
  below = λ r u. let (m, among, state, within) = c.below u.row u.holds in (
    restricted_row m keep,
    record { row = m; among = among; is = refl },
    ap (λ (s : PartialState). restricted s keep) state ∙ sym (ap (λ (w : Row). w.state) u.is),
    λ k h. subst (λ (w : Row). IsTrue (has w.marks k)) (sym u.is) (within k h),
  );
}

pub forget_presents : (S : Row → Type 0) (a f : TableData) (keep : ℕ) → Covers (λ r. IsAmong r a.rows) S → IsForgetting a keep f → Presents (IsRestrictionOf S keep) f
forget_presents S a f keep covers forget =
    let restricts = restriction_covers S a keep covers in
    record {
      rows = IsListing-same RowBefore _ _ f.rows (covers_same (IsRestriction a.rows keep) (IsRestrictionOf S keep) restricts) forget.rows;
      covers = Covers-trans (λ r. IsAmong r f.rows) (IsRestriction a.rows keep) (IsRestrictionOf S keep)
          (covers_listing (IsRestriction a.rows keep) f.rows (minimal_covers (IsRestriction a.rows keep) (map (λ (x : Row). restricted_row x keep) a.rows, restrictions a.rows keep)) forget.rows) restricts;
    }

-- its own rows
covers_own : (a : TableData) → Covers (λ r. IsAmong r a.rows) (λ r. IsAmong r a.rows)
covers_own a = covers_alike _ _ (λ r. (λ h. h, λ h. h))

-- tables that present the same rows have them in the same order
same_presented : (S T : Row → Type 0) (t u : TableData) → ((r : Row) → T r ↔ S r) → Presents S t → Presents T u → t.scope ≡ u.scope → t ≡ u
same_presented S T t u same p q scopes = table_is t u scopes (same_listing RowBefore RowBefore-asymmetric (IsMinimalRow S) t.rows u.rows p.rows (presents_alike T S u same q).rows)

module _ (S : Row → Type 0) (b : TableData) (is_b : IsTable b) (keep level : ℕ) (within : Within b.scope keep) where
  mask_kept : (y : Row) → IsAmong y b.rows → Within y.state.mask keep
  mask_kept y among k h = within k (subst (λ (m : ℕ). IsTrue (has m k)) (row_of b is_b y among).mask h)

  joined : (x y : Row) → IsAmong y b.rows → restricted_row (united_row x y) keep ≡ united_row (restricted_row x keep) y
  joined x y among = same_row _ _ (common-union_within x.state.mask y.state.mask keep (mask_kept y among))
      (common-union_within x.state.values y.state.values keep (λ k h. mask_kept y among k ((row_of b is_b y among).partial.of_mask k h))) refl

  -- projections of what is kept by unions with rows of b, and unions of its projections
  pub union_restricted : (r : Row) → IsUnionOf (IsRestrictionOf S keep) b.rows level r ↔ IsRestrictionOf (IsUnionOf S b.rows level) keep r
  union_restricted r = (
    λ u. let v = u.holds in
        let whole : r ≡ restricted_row (united_row v.row u.second) keep = u.is ∙ (ap (λ (w : Row). united_row w u.second) v.is ∙ sym (joined v.row u.second u.in_second)) in
        record {
          row = united_row v.row u.second;
          holds = record {
            first = v.row;
            second = u.second;
            holds = v.holds;
            in_second = u.in_second;
            fit = fits_whole v.row.state u.second.state keep (mask_kept u.second u.in_second) (subst (λ (w : Row). Fits w.state u.second.state) v.is u.fit);
            is = refl;
            few = subst (λ (w : Row). size w.marks ≤ level) whole u.few;
          };
          is = whole;
        },
    λ u. let v = u.holds in
        record {
          first = restricted_row v.first keep;
          second = v.second;
          holds = record { row = v.first; holds = v.holds; is = refl };
          in_second = v.in_second;
          fit = fits_kept v.first.state v.second.state keep (mask_kept v.second v.in_second) v.fit;
          is = u.is ∙ (ap (λ (w : Row). restricted_row w keep) v.is ∙ joined v.first v.second v.in_second);
          few = subst (λ (w : Row). size w.marks ≤ level) (sym u.is) v.few;
        },
  )

pub forgetting_commutes : ForgettingCommutes
forgetting_commutes a b f t j u keep level is_b within forget_a join_f join_a forget_j =
    let S = λ (r : Row). IsAmong r a.rows in
    let p = join_presents (IsRestrictionOf S keep) f b t level (forget_presents S a f keep (covers_own a) forget_a).covers join_f in
    let q = forget_presents (IsUnionOf S b.rows level) j u keep (join_presents S a b j level (covers_own a) join_a).covers forget_j in
    same_presented (IsUnionOf (IsRestrictionOf S keep) b.rows level) (IsRestrictionOf (IsUnionOf S b.rows level) keep) t u
    (λ r. let both = union_restricted S b is_b keep level within r in (both.1, both.0)) p q
    (join_f.scope ∙ (ap (λ s. union s b.scope) forget_a.scope ∙ (sym (common-union_within a.scope b.scope keep within) ∙ (ap (λ s. common s keep) (sym join_a.scope) ∙ sym forget_j.scope))))

-- ---- forgetting once, and once more
pub forgetting_is_one : ForgettingIsOne
forgetting_is_one a f g keep forget other =
    table_is f g (forget.scope ∙ sym other.scope) (same_listing RowBefore RowBefore-asymmetric (IsMinimalRow (IsRestriction a.rows keep)) f.rows g.rows forget.rows other.rows)

pub restricted_twice : (S : Row → Type 0) (keep later : ℕ) (r : Row) → IsRestrictionOf (IsRestrictionOf S keep) later r ↔ IsRestrictionOf S (common keep later) r
restricted_twice S keep later r = (
  λ u. record { row = u.holds.row; holds = u.holds.holds; is = u.is ∙ (ap (λ (w : Row). restricted_row w later) u.holds.is ∙ twice u.holds.row) },
  λ u. record { row = restricted_row u.row keep; holds = record { row = u.row; holds = u.holds; is = refl }; is = u.is ∙ sym (twice u.row) },
)
  where
    twice : (x : Row) → restricted_row (restricted_row x keep) later ≡ restricted_row x (common keep later)
    twice x = same_row _ _ (common_assoc x.state.mask keep later) (common_assoc x.state.values keep later) refl

own_restriction : (a : TableData) (keep : ℕ) (r : Row) → IsRestrictionOf (λ w. IsAmong w a.rows) keep r ↔ IsRestriction a.rows keep r
own_restriction a keep r = (λ u. record { row = u.row; among = u.holds; is = u.is }, λ u. record { row = u.row; holds = u.among; is = u.is })

pub forgetting_twice : ForgettingTwiceIsOnce
forgetting_twice a f g keep later forget again =
    let S = λ (r : Row). IsAmong r a.rows in
    let p = forget_presents (IsRestrictionOf S keep) f g later (forget_presents S a f keep (covers_own a) forget).covers again in
    record {
      scope = again.scope ∙ (ap (λ s. common s later) forget.scope ∙ common_assoc a.scope keep later);
      rows = IsListing-same RowBefore _ _ g.rows (minimal_as (IsRestrictionOf S (common keep later)) (IsRestriction a.rows (common keep later)) (own_restriction a (common keep later)))
          (presents_alike (IsRestrictionOf (IsRestrictionOf S keep) later) (IsRestrictionOf S (common keep later)) g (restricted_twice S keep later) p).rows;
    }
