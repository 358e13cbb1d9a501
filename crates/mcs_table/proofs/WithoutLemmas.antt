-- Rows whose marks hold one of some sets make no difference to those that hold none: a join or what forgetting leaves may be made without them.
use Rattle.std.proofs.Common.{◌≡◌, ℕ, List, [], IsTrue, sym, ap, ◌∙◌, subst, ◌↔◌}
use Rattle.mcs_sets.specs.Sets.{has, union, common, Within}
use Rattle.mcs_sets.proofs.Lattice.{within_union_left}
use Rattle.mcs_base.specs.Antichains.{HasOneWithin}
use Rattle.mcs_base.specs.Listings.{IsAmong, IsAscending}
use Rattle.mcs_base.proofs.AntichainLemmas.{one_within-none}
use Rattle.mcs_base.proofs.ListingLemmas.{same_listing, IsListing-same}
use Rattle.mcs_table.specs.declared.row.Row.{Row}
use Rattle.mcs_table.specs.RowOrder.{RowBefore}
use Rattle.mcs_table.specs.Tables.{TableData, IsUnion, IsRestriction, IsMinimalRow, IsJoin, IsForgetting}
use Rattle.mcs_table.specs.Without.{IsWithout}
use Rattle.mcs_table.proofs.OrderLemmas.{RowBefore-asymmetric}
use Rattle.mcs_table.proofs.JoinLemmas.{minimal_as, union_more}
use Rattle.mcs_table.proofs.OrderFreeLemmas.{table_is}

module _ (sets : List ℕ) where
  -- none of the sets lies within the marks of the row
  abbrev HoldsNone : Row → Type 0
  HoldsNone r = ¬ HasOneWithin sets r.marks

  none_below : (x y : Row) → Within x.marks y.marks → HoldsNone y → HoldsNone x
  none_below x y within none h = none (record { inner = h.inner; among = h.among; within = λ k i. within k (h.within k i) })

  -- the minimal ones of the rows that hold none are the minimal rows that hold none
  minimal_without : (P : Row → Type 0) (r : Row) → IsMinimalRow (λ x. P x × HoldsNone x) r ↔ (IsMinimalRow P r × HoldsNone r)
  minimal_without P r = (
    λ m. (record { one = m.one.0; least = λ s p state within. m.least s (p, none_below s r within m.one.1) state within }, m.one.1),
    λ (m, none). record { one = (m.one, none); least = λ s both. m.least s both.0 },
  )

  -- where rows of P and of Q that hold none are the same, so are their minimal ones
  minimal_alike : (P Q : Row → Type 0) → ((r : Row) → (P r × HoldsNone r) ↔ (Q r × HoldsNone r)) → (r : Row) → IsMinimalRow P r → HoldsNone r → IsMinimalRow Q r
  minimal_alike P Q same r m none =
      ((minimal_without Q r).0 ((minimal_as (λ x. P x × HoldsNone x) (λ x. Q x × HoldsNone x) same r).0 ((minimal_without P r).1 (m, none)))).0

  -- ---- joins
  module _ (whole left a : TableData) (level : ℕ) (without : IsWithout sets whole left) where
    first_within : (r : Row) (u : IsUnion whole.rows a.rows level r) → Within u.first.marks r.marks
    first_within r u k i = subst (λ (w : Row). IsTrue (has w.marks k)) (sym u.is) (within_union_left u.first.marks u.second.marks k i)

    unions_alike : (r : Row) → (IsUnion left.rows a.rows level r × HoldsNone r) ↔ (IsUnion whole.rows a.rows level r × HoldsNone r)
    unions_alike r = (
      λ (u, none). (union_more left.rows a.rows whole.rows level r (λ s h. ((without.rows.exactly s).0 h).0) u, none),
      λ (u, none). (
        record {
          first = u.first;
          second = u.second;
          in_first = (without.rows.exactly u.first).1 (u.in_first, none_below u.first r (first_within r u) none);
          in_second = u.in_second;
          fit = u.fit;
          is = u.is;
          few = u.few;
        },
        none,
      ),
    )

    pub join_without : (joined some rest : TableData) → IsJoin whole a level joined → IsJoin left a level some → IsWithout sets some rest → IsWithout sets joined rest
    join_without joined some rest join_whole join_left of_some = record {
      scope = of_some.scope ∙ (join_left.scope ∙ (ap (λ s. union s a.scope) without.scope ∙ sym join_whole.scope));
      rows = IsListing-same RowBefore (λ r. IsAmong r some.rows × HoldsNone r) (λ r. IsAmong r joined.rows × HoldsNone r) rest.rows (λ r. (
        λ (among, none). ((join_whole.rows.exactly r).1 (minimal_alike (IsUnion left.rows a.rows level) (IsUnion whole.rows a.rows level) unions_alike r ((join_left.rows.exactly r).0 among) none), none),
        λ (among, none). ((join_left.rows.exactly r).1 (minimal_alike (IsUnion whole.rows a.rows level) (IsUnion left.rows a.rows level) (λ x. ((unions_alike x).1, (unions_alike x).0)) r ((join_whole.rows.exactly r).0 among) none), none),
      )) of_some.rows;
    }

  -- ---- forgetting
  module _ (whole left : TableData) (keep : ℕ) (without : IsWithout sets whole left) where
    restrictions_without : (r : Row) → IsRestriction left.rows keep r ↔ (IsRestriction whole.rows keep r × HoldsNone r)
    restrictions_without r = (
      λ u. let (among, none) = (without.rows.exactly u.row).0 u.among in
          (record { row = u.row; among = among; is = u.is }, subst (λ (m : ℕ). ¬ HasOneWithin sets m) (sym (ap (λ (w : Row). w.marks) u.is)) none),
      λ (u, none). record {
        row = u.row;
        among = (without.rows.exactly u.row).1 (u.among, subst (λ (m : ℕ). ¬ HasOneWithin sets m) (ap (λ (w : Row). w.marks) u.is) none);
        is = u.is;
      },
    )

    pub forget_without : (rest fewer : TableData) → IsForgetting whole keep rest → IsForgetting left keep fewer → IsWithout sets rest fewer
    forget_without rest fewer forget_whole forget_left = record {
      scope = forget_left.scope ∙ (ap (λ s. common s keep) without.scope ∙ sym forget_whole.scope);
      rows = IsListing-same RowBefore (IsMinimalRow (IsRestriction left.rows keep)) (λ r. IsAmong r rest.rows × HoldsNone r) fewer.rows (λ r.
          let same = minimal_as (IsRestriction left.rows keep) (λ x. IsRestriction whole.rows keep x × HoldsNone x) restrictions_without r in
          let both = minimal_without (IsRestriction whole.rows keep) r in (
            λ m. let (minimal, none) = both.0 (same.0 m) in ((forget_whole.rows.exactly r).1 minimal, none),
            λ (among, none). same.1 (both.1 ((forget_whole.rows.exactly r).0 among, none)),
          )) forget_left.rows;
    }

-- where there are no sets, all rows are there
pub without_none : (whole t : TableData) → IsAscending RowBefore whole.rows → IsWithout [] whole t → t ≡ whole
without_none whole t up w = table_is t whole w.scope (same_listing RowBefore RowBefore-asymmetric (λ r. IsAmong r whole.rows) t.rows whole.rows
    (IsListing-same RowBefore (λ r. IsAmong r whole.rows × (¬ HasOneWithin [] r.marks)) (λ r. IsAmong r whole.rows) t.rows (λ r. (λ h. h.0, λ h. (h, one_within-none r.marks))) w.rows)
    (record { exactly = λ r. (λ h. h, λ h. h); ascending = up }))
