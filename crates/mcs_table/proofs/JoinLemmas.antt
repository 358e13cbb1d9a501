-- Collecting the unions of the rows of two tables.
use Rattle.std.proofs.Common.{◌≡◌, ◌<◌, ◌≤◌, ℕ, ◌+◌, List, [], ◌∷◌, ◌++◌, map, length, get_or, take, refl, sym, ap, ◌∙◌, subst, inl, inr, ◌↔◌, arith}
use Rattle.std.specs.List.{AllByRecursion}
use Rattle.std.specs.List.Sorted.{IsPermutation}
use Rattle.mcs_sets.specs.Sets.{union, common, size}
use Rattle.mcs_sets.proofs.Lattice.{size-union_apart}
use Rattle.mcs_base.specs.Listings.{IsAmong, IsListing}
use Rattle.mcs_base.specs.Partials.{Fits}
use Rattle.mcs_base.proofs.PartialLemmas.{fits-where, where-fits}
use Rattle.mcs_base.proofs.ListingLemmas.{IsListing-same}
use Rattle.mcs_base.proofs.Among.{among_take_more, among_at, among_append, map_among, among_map, among_permutation}
use Rattle.mcs_base.proofs.Each.{all_among, all_from_among}
use Rattle.mcs_table.specs.declared.row.Row.{Row}
use Rattle.mcs_table.specs.RowOrder.{RowBefore}
use Rattle.mcs_table.specs.Tables.{TableData, IsTable, IsRowOn, ShareNoMark, IsUnion, IsMinimalRow, IsJoin, united_row}

-- what is minimal depends only on what there is
pub minimal_as : (P Q : Row → Type 0) → ((r : Row) → P r ↔ Q r) → (r : Row) → IsMinimalRow P r ↔ IsMinimalRow Q r
minimal_as P Q same r = (
  λ m. record { one = (same r).0 m.one; least = λ s q. m.least s ((same s).1 q) },
  λ m. record { one = (same r).1 m.one; least = λ s p. m.least s ((same s).0 p) },
)

-- the unions so far
pub record AreUnions (xs ys : List Row) (level : ℕ) (unions : List Row) : Type 0 where
  pub exactly : (r : Row) → IsAmong r unions ↔ IsUnion xs ys level r

pub unions_begin : (ys : List Row) (level : ℕ) → AreUnions [] ys level []
unions_begin ys level = record { exactly = λ r. (λ h. absurd h, λ u. absurd u.in_first) }

pub row_on : (t : TableData) → AllByRecursion (IsRowOn t.scope) t.rows → (r : Row) → IsAmong r t.rows → IsRowOn t.scope r
row_on t on r among = all_among (IsRowOn t.scope) t.rows r on among

pub row_of : (t : TableData) → IsTable t → (r : Row) → IsAmong r t.rows → IsRowOn t.scope r
row_of t is r among = all_among (IsRowOn t.scope) t.rows r is.on_scope among

module _ (a b : TableData) (is_a : AllByRecursion (IsRowOn a.scope) a.rows) (is_b : IsTable b) (x y : Row) (in_a : IsAmong x a.rows) (in_b : IsAmong y b.rows) where
  -- rows of two tables fit where they say the same of what both tables speak of
  pub pair_fits : common y.state.values a.scope ≡ common x.state.values b.scope → Fits x.state y.state
  pair_fits e =
      let rx = row_on a is_a x in_a in
      let ry = row_of b is_b y in_b in
      where-fits x.state y.state (ap (common x.state.values) ry.mask ∙ sym e ∙ ap (common y.state.values) (sym rx.mask))

  pub pair_where : Fits x.state y.state → common y.state.values a.scope ≡ common x.state.values b.scope
  pair_where fit =
      let rx = row_on a is_a x in_a in
      let ry = row_of b is_b y in_b in
      ap (common y.state.values) (sym rx.mask) ∙ sym (fits-where x.state y.state rx.partial ry.partial fit) ∙ ap (common x.state.values) ry.mask

pub union_more : (xs ys : List Row) (all : List Row) (level : ℕ) (r : Row) → ((s : Row) → IsAmong s xs → IsAmong s all) → IsUnion xs ys level r → IsUnion all ys level r
union_more xs ys all level r more u = record { first = u.first; second = u.second; in_first = more u.first u.in_first; in_second = u.in_second; fit = u.fit; is = u.is; few = u.few }

module _ (a b : TableData) (is_a : AllByRecursion (IsRowOn a.scope) a.rows) (is_b : IsTable b) (apart : ShareNoMark a.rows b.rows) (level i : ℕ) (x : Row) (less : i < length a.rows) (here : x ≡ get_or a.rows i x) (unions : List Row) (so_far : AreUnions (take i a.rows) b.rows level unions) where
  in_a : IsAmong x a.rows
  in_a = subst (λ (r : Row). IsAmong r a.rows) (sym here) (among_at a.rows i x less)

  old_union : (r : Row) → IsUnion (take i a.rows) b.rows level r → IsUnion (take (i + 1) a.rows) b.rows level r
  old_union r u = union_more (take i a.rows) b.rows (take (i + 1) a.rows) level r (λ s h. (among_take_more a.rows i x less here s).1 (inl h)) u

  sizes : (y : Row) → IsAmong y b.rows → size (union x.marks y.marks) ≡ size x.marks + size y.marks
  sizes y among = size-union_apart x.marks y.marks (apart x y in_a among)

  union_size : (r y : Row) → IsAmong y b.rows → r ≡ united_row x y → size r.marks ≡ size x.marks + size y.marks
  union_size r y among e = ap (λ (s : Row). size s.marks) e ∙ sizes y among

  -- a row with too many marks of its own
  pub unions_skip : level < size x.marks → AreUnions (take (i + 1) a.rows) b.rows level unions
  unions_skip many = record {
    exactly = λ r. (
      λ h. old_union r ((so_far.exactly r).0 h),
      λ u. elim ((among_take_more a.rows i x less here u.first).0 u.in_first) [
        | inl old ↦ (so_far.exactly r).1 (record { first = u.first; second = u.second; in_first = old; in_second = u.in_second; fit = u.fit; is = u.is; few = u.few })
        | inr e ↦ let whole = union_size r u.second u.in_second (u.is ∙ ap (λ (s : Row). united_row s u.second) e) in let few = u.few in absurd (omega arith)
      ],
    );
  }

  module _ (room : ℕ) (rest : room + size x.marks ≡ level) (sorted found : List Row) (moved : IsPermutation b.rows sorted)
      (finds : (r : Row) → IsAmong r found ↔ (IsAmong r sorted × (common r.state.values a.scope ≡ common x.state.values b.scope) × (size r.marks ≤ room))) where
    pub found_fit : AllByRecursion (λ (r : Row). Fits x.state r.state) found
    found_fit = all_from_among (λ (r : Row). Fits x.state r.state) found (λ r among. let f = (finds r).0 among in pair_fits a b is_a is_b x r in_a ((among_permutation b.rows sorted moved r).0 f.0) f.1)

    new_union : (r y : Row) → IsAmong y found → r ≡ united_row x y → IsUnion (take (i + 1) a.rows) b.rows level r
    new_union r y among e =
        let f = (finds y).0 among in
        let in_b : IsAmong y b.rows = (among_permutation b.rows sorted moved y).0 f.0 in
        let whole = union_size r y in_b e in
        let few = f.2 in
        record {
          first = x;
          second = y;
          in_first = (among_take_more a.rows i x less here x).1 (inr refl);
          in_second = in_b;
          fit = pair_fits a b is_a is_b x y in_a in_b f.1;
          is = e;
          few = omega arith;
        }

    is_found : (r y : Row) → IsAmong y b.rows → Fits x.state y.state → r ≡ united_row x y → size r.marks ≤ level → IsAmong y found
    is_found r y among fit e few = let whole = union_size r y among e in
        (finds y).1 ((among_permutation b.rows sorted moved y).1 among, pair_where a b is_a is_b x y in_a among fit, omega arith)

    pub unions_more : AreUnions (take (i + 1) a.rows) b.rows level (unions ++ map (united_row x) found)
    unions_more = record {
      exactly = λ r. (
        λ h. elim ((among_append r unions (map (united_row x) found)).0 h) [
          | inl old ↦ old_union r ((so_far.exactly r).0 old)
          | inr new ↦ let (y, among, e) = map_among (united_row x) r found new in new_union r y among e
        ],
        λ u. (among_append r unions (map (united_row x) found)).1 (elim ((among_take_more a.rows i x less here u.first).0 u.in_first) [
          | inl old ↦ inl ((so_far.exactly r).1 (record { first = u.first; second = u.second; in_first = old; in_second = u.in_second; fit = u.fit; is = u.is; few = u.few }))
          | inr e ↦
              let is : r ≡ united_row x u.second = u.is ∙ ap (λ (s : Row). united_row s u.second) e in
              let fit : Fits x.state u.second.state = subst (λ (s : Row). Fits s.state u.second.state) e u.fit in
              inr (subst (λ (s : Row). IsAmong s (map (united_row x) found)) (sym is) (among_map (united_row x) u.second found (is_found r u.second u.in_second fit is u.few)))
        ]),
      );
    }

-- ---- the states of unions
-- these are the states of the unions so far
pub record AreUnionStates (xs ys : List Row) (level : ℕ) (states : List ℕ) : Type 0 where
  pub all : List Row
  pub unions : AreUnions xs ys level all
  pub is : states ≡ map (λ (r : Row). r.state.values) all

pub union_states_begin : (ys : List Row) (level : ℕ) → AreUnionStates [] ys level []
union_states_begin ys level = record { all = []; unions = unions_begin ys level; is = refl }

pub states_of_more : (x : Row) (unions found : List Row) → map (λ (r : Row). r.state.values) unions ++ map (λ (r : Row). union x.state.values r.state.values) found ≡ map (λ (r : Row). r.state.values) (unions ++ map (united_row x) found)
states_of_more x (r ∷ unions) found = ap (λ states. r.state.values ∷ states) (states_of_more x unions found)
states_of_more x [] [] = refl
states_of_more x [] (r ∷ found) = ap (λ states. union x.state.values r.state.values ∷ states) (states_of_more x [] found)

-- ---- the join of all unions
module _ (a b : TableData) (is_a : IsTable a) (is_b : IsTable b) (level : ℕ) (unions : List Row) (all : AreUnions a.rows b.rows level unions) where
  pub union_masks : AllByRecursion (λ (r : Row). r.state.mask ≡ union a.scope b.scope) unions
  union_masks = all_from_among (λ (r : Row). r.state.mask ≡ union a.scope b.scope) unions (λ r among. let u = (all.exactly r).0 among in
      ap (λ (s : Row). s.state.mask) u.is ∙ ap (λ (m : ℕ). union m u.second.state.mask) (row_of a is_a u.first u.in_first).mask ∙ ap (union a.scope) (row_of b is_b u.second u.in_second).mask)

  pub join_of_unions : (t : TableData) → t.scope ≡ union a.scope b.scope → IsListing (IsMinimalRow (λ r. IsAmong r unions)) RowBefore t.rows → IsJoin a b level t
  join_of_unions t scope rows = record {
    scope = scope;
    rows = IsListing-same RowBefore _ _ t.rows (minimal_as (λ r. IsAmong r unions) (IsUnion a.rows b.rows level) all.exactly) rows;
  }
