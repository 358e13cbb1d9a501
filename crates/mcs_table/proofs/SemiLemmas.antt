-- The rows of one table that have a partner in another.
use Rattle.std.proofs.Common.{◌≡◌, ◌≤◌, ℕ, ◌+◌, List, arith}
use Rattle.std.specs.List.Sorted.{IsPermutation}
use Rattle.mcs_sets.specs.Sets.{common, size}
use Rattle.mcs_sets.proofs.Lattice.{size-union_apart}
use Rattle.mcs_base.specs.Listings.{IsAmong, IsListing}
use Rattle.mcs_base.proofs.Among.{among_permutation}
use Rattle.mcs_base.proofs.Each.{all_from_among}
use Rattle.mcs_table.specs.declared.row.Row.{Row}
use Rattle.mcs_table.specs.RowOrder.{RowBefore}
use Rattle.mcs_table.specs.Tables.{TableData, IsTable, IsRowOn, ShareNoMark, HasPartner}
use Rattle.mcs_table.proofs.JoinLemmas.{row_of, pair_fits, pair_where}

-- rows of a that have a partner
module _ (a b : TableData) (is_a : IsTable a) (is_b : IsTable b) (apart : ShareNoMark a.rows b.rows) (level : ℕ) (x : Row) (in_a : IsAmong x a.rows) (sorted : List Row) (moved : IsPermutation b.rows sorted) where
  pub partner_known : HasPartner b.rows level x → (r : Row) × IsAmong r sorted × (common r.state.values a.scope ≡ common x.state.values b.scope) × (size r.marks + size x.marks ≤ level)
  partner_known h =
      let e = size-union_apart x.marks h.partner.marks (apart x h.partner in_a h.among) in
      let few = h.few in
      (h.partner, (among_permutation b.rows sorted moved h.partner).1 h.among, pair_where a b is_a.on_scope is_b x h.partner in_a h.among h.fit, omega arith)

  pub known_partner : ((r : Row) × IsAmong r sorted × (common r.state.values a.scope ≡ common x.state.values b.scope) × (size r.marks + size x.marks ≤ level)) → HasPartner b.rows level x
  known_partner (r, there, same, few) =
      let in_b = (among_permutation b.rows sorted moved r).0 there in
      let e = size-union_apart x.marks r.marks (apart x r in_a in_b) in
      record { partner = r; among = in_b; fit = pair_fits a b is_a.on_scope is_b x r in_a in_b same; few = omega arith }

-- some rows of a table, in order, are those of a table
pub part_is_table : (a : TableData) (Q : Row → Type 0) (rows : List Row) → IsTable a → IsListing (λ r. IsAmong r a.rows × Q r) RowBefore rows → IsTable (record { scope = a.scope; rows = rows })
part_is_table a Q rows is l = record { on_scope = all_from_among (IsRowOn a.scope) rows (λ r among. row_of a is r ((l.exactly r).0 among).0); ascending = l.ascending }
