-- There are joins of all tables: the minimal rows of finitely many are finitely many, and can be listed.
use Rattle.std.proofs.Common.{◌≡◌, ℕ, List, [], ◌∷◌, refl, sym, ap, ◌∙◌, subst, inl, inr, ◌⊎◌}
use Rattle.std.specs.declared.cmp.Ordering.{Ordering}
use Rattle.std.specs.declared.cmp.Ordering.TheVariants.{Less, Equal, Greater}
use Rattle.std.specs.Ordering.{ordering_reverse}
use Rattle.std.specs.List.{AllByRecursion}
use Rattle.mcs_sets.specs.Sets.{union, Within}
use Rattle.mcs_base.specs.Listings.{IsAmong, IsListing}
use Rattle.mcs_base.specs.Partials.{IsPartial}
use Rattle.mcs_base.proofs.PartialLemmas.{united-partial}
use Rattle.mcs_base.proofs.ListingLemmas.{listing_with_one, IsListing-same, IsListing-nil}
use Rattle.mcs_base.proofs.Each.{all_from_among}
use Rattle.mcs_table.specs.declared.row.Row.{Row}
use Rattle.mcs_table.specs.RowOrder.{RowBefore, row_cmp, row_cmp_total, row_equal_is}
use Rattle.mcs_table.specs.Tables.{TableData, IsTable, IsRowOn, IsUnion, IsMinimalRow, IsJoin, unit_table}
use Rattle.mcs_table.specs.Joins.{JoinsFrom, JoinsExist}
use Rattle.mcs_table.proofs.OrderLemmas.{listing_on_scope}
use Rattle.mcs_table.proofs.TableLemmas.{unit-kept}
use Rattle.mcs_table.proofs.JoinLemmas.{row_of}
use Rattle.mcs_table.proofs.CoverLemmas.{Listed, smaller_or_none, unions_listed}

-- those of ys with none of xs strictly within
least_of : (xs ys : List Row) → Listed (λ r. IsAmong r ys × ((s : Row) → IsAmong s xs → s.state ≡ r.state → Within s.marks r.marks → s.marks ≡ r.marks))
least_of xs [] = ([], λ r. (λ h. absurd h, λ both. absurd both.0))
least_of xs (y ∷ ys) = let (zs, is) = least_of xs ys in elim (smaller_or_none xs y) [
  | inl (s, among, smaller) ↦ (
    zs,
    λ r. (
      λ h. let both = (is r).0 h in (inr both.0, both.1),
      λ both. elim both.0 [
        | inl e ↦ absurd (smaller.other (subst (λ (w : Row). (s : Row) → IsAmong s xs → s.state ≡ w.state → Within s.marks w.marks → s.marks ≡ w.marks) e both.1 s among smaller.state smaller.within))
        | inr h ↦ (is r).1 (h, both.1)
      ],
    ),
  )
  | inr none ↦ (
    y ∷ zs,
    λ r. (
      λ h. elim h [
        | inl e ↦ (inl e, subst (λ (w : Row). (s : Row) → IsAmong s xs → s.state ≡ w.state → Within s.marks w.marks → s.marks ≡ w.marks) (sym e) none)
        | inr h' ↦ let both = (is r).0 h' in (inr both.0, both.1)
      ],
      λ both. elim both.0 [ inl e ↦ inl e | inr h ↦ inr ((is r).1 (h, both.1)) ],
    ),
  )
]

pub minimal_listed : (P : Row → Type 0) → Listed P → Listed (IsMinimalRow P)
minimal_listed P listed = let (xs, is) = listed in let (zs, is') = least_of xs xs in (
  zs,
  λ r. (
    λ h. let both = (is' r).0 h in record { one = (is r).0 both.0; least = λ s p. both.1 s ((is s).1 p) },
    λ m. (is' r).1 ((is r).1 m.one, λ s among. m.least s ((is s).0 among)),
  ),
)

-- ---- in order
before : Row → Row → Type 0
before a b = row_cmp a b ≡ Less

total : (a b : Row) → (a ≡ b) ⊎ (before a b ⊎ before b a)
unfolding before
total a b = at (row_cmp a b) refl
  where
    at : (o : Ordering) → row_cmp a b ≡ o → (a ≡ b) ⊎ ((row_cmp a b ≡ Less) ⊎ (row_cmp b a ≡ Less))
    at Less e = inr (inl e)
    at Equal e = inl (row_equal_is a b e)
    at Greater e = inr (inr (row_cmp_total.antisymm b a ∙ ap ordering_reverse e))

transitive : (a b c : Row) → before a b → before b c → before a c
unfolding before
transitive a b c h k = row_cmp_total.trans a b c h k

in_order : (xs : List Row) → (ys : List Row) × IsListing (λ r. IsAmong r xs) before ys
in_order [] = ([], IsListing-nil before (λ r. IsAmong r []) (λ r h. h))
in_order (x ∷ xs) = let (ys, l) = in_order xs in listing_with_one before transitive total (λ r. IsAmong r xs) x ys l

pub listed_in_order : (scope : ℕ) (P : Row → Type 0) → ((r : Row) → P r → r.state.mask ≡ scope) → Listed P → (ys : List Row) × IsListing P RowBefore ys
unfolding before
listed_in_order scope P masks listed = let (xs, is) = listed in let (ys, l) = in_order xs in
    (ys, listing_on_scope scope P ys masks (IsListing-same before (λ r. IsAmong r xs) P ys is l))

pub join_exists : (a b : TableData) (level : ℕ) → IsTable a → IsTable b → (t : TableData) × IsTable t × IsJoin a b level t
join_exists a b level is_a is_b =
    let (rows, l) = listed_in_order (union a.scope b.scope) (IsMinimalRow (IsUnion a.rows b.rows level)) (λ r m. (on_both r m.one).mask) (minimal_listed (IsUnion a.rows b.rows level) (unions_listed a.rows b.rows level)) in (
      record { scope = union a.scope b.scope; rows = rows },
      record { on_scope = all_from_among (IsRowOn (union a.scope b.scope)) rows (λ r among. on_both r ((l.exactly r).0 among).one); ascending = l.ascending },
      record { scope = refl; rows = l },
    )
  where
    on_both : (r : Row) → IsUnion a.rows b.rows level r → IsRowOn (union a.scope b.scope) r
    on_both r u =
        let x = row_of a is_a u.first u.in_first in
        let y = row_of b is_b u.second u.in_second in
        record {
          mask = ap (λ (w : Row). w.state.mask) u.is ∙ (ap (λ m. union m u.second.state.mask) x.mask ∙ ap (union a.scope) y.mask);
          partial = subst (λ (w : Row). IsPartial w.state) (sym u.is) (united-partial u.first.state u.second.state x.partial y.partial);
        }

joins_from : (level : ℕ) (tables : List TableData) (from : TableData) → IsTable from → AllByRecursion IsTable tables → (t : TableData) × IsTable t × JoinsFrom level from tables t
joins_from level [] from is all = (from, is, refl)
joins_from level (a ∷ rest) from is all =
    let (next, is', j) = join_exists from a level is all.0 in
    let (t, is'', later) = joins_from level rest next is' all.1 in
    (t, is'', (next, j, later))

pub joins_exist : JoinsExist
joins_exist level tables all = joins_from level tables unit_table unit-kept all
