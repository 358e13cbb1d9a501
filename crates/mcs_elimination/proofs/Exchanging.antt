-- The cheapest of the rows that come of joining a table and of forgetting come of cheapest rows: with a cheaper row of the same state in its place, what came of it would be cheaper.
use Rattle.std.proofs.Common.{◌≡◌, ℕ, ◌+◌, ◌≤◌, Option, Some, None, refl, sym, ap, ◌∙◌, subst, arith}
use Rattle.mcs_sets.specs.Sets.{union, size, Within, Meets}
use Rattle.mcs_sets.proofs.Lattice.{union_within}
use Rattle.mcs_base.specs.Listings.{IsAmong}
use Rattle.mcs_base.specs.Partials.{PartialState, Fits, united, restricted}
use Rattle.mcs_table.specs.declared.row.Row.{Row}
use Rattle.mcs_table.specs.Tables.{TableData, IsJoin, IsForgetting, Covers, united_row, restricted_row}
use Rattle.mcs_table.specs.Elimination.{IsRestrictionOf}
use Rattle.mcs_table.proofs.CommuteLemmas.{forget_presents}
use Rattle.mcs_table.proofs.JointLemmas.{IsUnionOf, covers_alike, join_presents}
use Rattle.mcs_table.proofs.OrderLemmas.{same_state_and_marks}
use Rattle.mcs_elimination.specs.CheapestRows.{IsBelow, IsCheapestRow, HasCheapest}

-- what costs no more than what is below is below
pub below_less : (below : Option ℕ) (a b : ℕ) → a ≤ b → IsBelow below b → IsBelow below a
below_less None a b less h = tt
below_less (Some bound) a b less h = omega (arith, less, h)

-- Prices of marks within a set: they add up, and what lacks a mark costs less. A level has room for all marks of the set.
pub record IsPrice (price : ℕ → ℕ) (all level : ℕ) : Type 0 where
  pub apart : (s t : ℕ) → ¬ Meets s t → price (union s t) ≡ price s + price t
  pub same : (s t : ℕ) → Within t all → Within s t → price t ≤ price s → s ≡ t
  pub room : (s : ℕ) → Within s all → size s ≤ level

-- of fewer rows a cheapest one of all is a cheapest one too
pub cheapest_of_fewer : (price : ℕ → ℕ) (below : Option ℕ) (Q P : Row → Type 0) → ((r : Row) → Q r → P r) → (r : Row) → Q r → IsCheapestRow price below P r → IsCheapestRow price below Q r
cheapest_of_fewer price below Q P fewer r one l = record { one = one; cheap = l.cheap; least = λ s is state. l.least s (fewer s is) state }

module _ (price : ℕ → ℕ) (all level : ℕ) (prices : IsPrice price all level) (below : Option ℕ) where
  -- where some rows have one of each state within the marks of each other row, the cheapest are among them
  pub cheapest_covers : (Q P : Row → Type 0) → Covers Q P → ((r : Row) → P r → Within r.marks all) → (r : Row) → IsCheapestRow price below P r → IsCheapestRow price below Q r
  cheapest_covers Q P c known r l =
      let (t, there, state, within) = c.below r l.one in
      let no_less = l.least t (c.from t there) state in
      let same : t ≡ r = same_state_and_marks t r state (prices.same t.marks r.marks (known r l.one) within no_less) in
      cheapest_of_fewer price below Q P c.from r (subst Q same there) l

  -- ---- one table more
  -- S: all rows so far; left: those that are left, with the cheapest
  module _ (keep : ℕ) (S : Row → Type 0) (left a : TableData) (known : (r : Row) → S r → Within r.marks all) (known_next : (r : Row) → IsAmong r a.rows → Within r.marks all)
      (apart : (x y : Row) → S x → IsAmong y a.rows → ¬ Meets x.marks y.marks) (inside : (r : Row) → IsAmong r left.rows → S r) (kept : (r : Row) → IsCheapestRow price below S r → IsAmong r left.rows) where
    -- what comes of all rows, and of those that are left
    abbrev pub All : Row → Type 0
    All = IsRestrictionOf (IsUnionOf S a.rows level) keep

    abbrev pub Few : Row → Type 0
    Few = IsRestrictionOf (IsUnionOf (λ r. IsAmong r left.rows) a.rows level) keep

    few_all : (r : Row) → Few r → All r
    few_all r h = record {
      row = h.row;
      holds = record { first = h.holds.first; second = h.holds.second; holds = inside h.holds.first h.holds.holds; in_second = h.holds.in_second; fit = h.holds.fit; is = h.holds.is; few = h.holds.few };
      is = h.is;
    }

    marks_of : (r : Row) (h : All r) → r.marks ≡ union h.holds.first.marks h.holds.second.marks
    marks_of r h = ap (λ (w : Row). w.marks) h.is ∙ ap (λ (w : Row). w.marks) h.holds.is

    -- its marks are of the set
    pub known_all : (r : Row) → All r → Within r.marks all
    known_all r h = subst (λ (n : ℕ). Within n all) (sym (marks_of r h)) (union_within h.holds.first.marks h.holds.second.marks all (known h.holds.first h.holds.holds) (known_next h.holds.second h.holds.in_second))

    -- a cheapest one of all comes of a row that is left
    exchanged : (r : Row) → IsCheapestRow price below All r → Few r
    exchanged r l = record {
      row = h.row;
      holds = record { first = x; second = y; holds = kept x (record { one = h.holds.holds; cheap = cheap; least = least }); in_second = h.holds.in_second; fit = h.holds.fit; is = h.holds.is; few = h.holds.few };
      is = h.is;
    }
      where
        h : All r
        h = l.one

        x : Row
        x = h.holds.first

        y : Row
        y = h.holds.second

        paid : price r.marks ≡ price x.marks + price y.marks
        paid = ap price (marks_of r h) ∙ prices.apart x.marks y.marks (apart x y h.holds.holds h.holds.in_second)

        cheap : IsBelow below (price x.marks)
        cheap = below_less below (price x.marks) (price r.marks) (omega (arith, paid)) l.cheap

        least : (z : Row) → S z → z.state ≡ x.state → price x.marks ≤ price z.marks
        least z is_z same =
            let other : Row = restricted_row (united_row z y) keep in
            let here : All other = record {
              row = united_row z y;
              holds = record {
                first = z;
                second = y;
                holds = is_z;
                in_second = h.holds.in_second;
                fit = subst (λ (p : PartialState). Fits p y.state) (sym same) h.holds.fit;
                is = refl;
                few = prices.room (union z.marks y.marks) (union_within z.marks y.marks all (known z is_z) (known_next y h.holds.in_second));
              };
              is = refl;
            } in
            let state : other.state ≡ r.state = ap (λ (p : PartialState). restricted (united p y.state) keep) same
            ∙ (sym (ap (λ (w : Row). restricted w.state keep) h.holds.is) ∙ sym (ap (λ (w : Row). w.state) h.is)) in
            let no_less : price r.marks ≤ price (union z.marks y.marks) = l.least other here state in
            omega (arith, no_less, paid, prices.apart z.marks y.marks (apart z y is_z h.holds.in_second))

    module _ (joined rest next : TableData) (join : IsJoin left a level joined) (forget : IsForgetting joined keep rest) (cheapest : HasCheapest price below rest next) where
      covers : Covers (λ r. IsAmong r rest.rows) Few
      covers = (forget_presents (IsUnionOf (λ r. IsAmong r left.rows) a.rows level) joined rest keep
          (join_presents (λ r. IsAmong r left.rows) left a joined level (covers_alike _ _ (λ r. (λ h. h, λ h. h))) join).covers forget).covers

      pub rest_inside : (r : Row) → IsAmong r rest.rows → All r
      rest_inside r among = few_all r (covers.from r among)

      -- what is left then
      pub next_inside : (r : Row) → IsAmong r next.rows → All r
      next_inside r among = rest_inside r (cheapest.rows r among)

      pub next_kept : (r : Row) → IsCheapestRow price below All r → IsAmong r next.rows
      next_kept r l = cheapest.cheapest r (cheapest_covers (λ s. IsAmong s rest.rows) Few covers (λ s few. known_all s (few_all s few)) r (cheapest_of_fewer price below Few All few_all r (exchanged r l) l))
