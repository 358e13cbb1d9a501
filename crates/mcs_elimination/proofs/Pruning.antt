-- Going through the rows of a table, and keeping the cheapest of each run.
use Rattle.std.proofs.Common.{◌≡◌, ℕ, ◌+◌, ◌<◌, ◌≤◌, List, [], length, take, drop, get_or, Option, sym, subst, ◌∙◌, inl, inr, arith}
use Rattle.std.proofs.lemmas.List.{take_all}
use Rattle.mcs_base.specs.Listings.{IsAmong}
use Rattle.mcs_base.proofs.Among.{among_at, among_take_more, drop_among}
use Rattle.mcs_table.specs.declared.row.Row.{Row}
use Rattle.mcs_table.specs.Tables.{TableData}
use Rattle.mcs_elimination.specs.CheapestRows.{HaveOneState, IsBelow, IsCheapestRow, HasCheapest}
use Rattle.mcs_elimination.specs.Runs.{IsAdded, IsOneMore, IsRun}
use Rattle.mcs_elimination.specs.declared.run.Run.{Run}

-- of the first i rows these are kept, the last of them as a run
pub record IsPruned (price : ℕ → ℕ) (below : Option ℕ) (rows : List Row) (i : ℕ) (kept : List Row) (run : Run) : Type 0 where
  pub run_is : IsRun price kept run
  pub from : (r : Row) → IsAmong r kept → IsAmong r rows
  pub cheap : (r : Row) → IsAmong r kept → IsBelow below (price r.marks)
  pub cheapest : (r : Row) → IsAmong r (take i rows) → IsCheapestRow price below (λ s. IsAmong s rows) r → IsAmong r kept
  pub first : HaveOneState (λ r. IsAmong r rows) → run.from ≡ 0

pub pruned_none : (price : ℕ → ℕ) (below : Option ℕ) (rows kept : List Row) (run : Run) → kept ≡ [] → run.from ≡ 0 → IsPruned price below rows 0 kept run
pruned_none price below rows kept run none from = subst (λ (xs : List Row). IsPruned price below rows 0 xs run) (sym none) (record {
  run_is = record { states = λ x y in_x in_y. absurd (drop_among [] run.from x in_x); prices = λ r among. absurd (drop_among [] run.from r among) };
  from = λ r among. absurd among;
  cheap = λ r among. absurd among;
  cheapest = λ r among l. absurd among;
  first = λ one. from;
})

module _ (price : ℕ → ℕ) (below : Option ℕ) (rows : List Row) (i : ℕ) (kept : List Row) (run : Run) (row : Row) (less : i < length rows) (here : row ≡ get_or rows i row) (so_far : IsPruned price below rows i kept run) where
  in_rows : IsAmong row rows
  in_rows = subst (λ (r : Row). IsAmong r rows) (sym here) (among_at rows i row less)

  -- one that reaches the bound is left out
  pub pruned_past : ¬ IsBelow below (price row.marks) → IsPruned price below rows (i + 1) kept run
  pruned_past reaches = record {
    run_is = so_far.run_is;
    from = so_far.from;
    cheap = so_far.cheap;
    cheapest = λ r among l. elim ((among_take_more rows i row less here r).0 among) [
      | inl before ↦ so_far.cheapest r before l
      | inr same ↦ absurd (reaches (subst (λ (s : Row). IsBelow below (price s.marks)) same l.cheap))
    ];
    first = so_far.first;
  }

  pub pruned_more : (kept' : List Row) (next : Run) → IsBelow below (price row.marks) → IsAdded price row kept kept' run next → IsPruned price below rows (i + 1) kept' next
  pruned_more kept' next is_below added = record {
    run_is = added.run_is;
    from = λ r among. known r (added.from r among);
    cheap = λ r among. elim (added.from r among) [
      | inl before ↦ so_far.cheap r before
      | inr same ↦ subst (λ (s : Row). IsBelow below (price s.marks)) (sym same) is_below
    ];
    cheapest = λ r among l.
        let one : IsOneMore kept row r = elim ((among_take_more rows i row less here r).0 among) [
          | inl before ↦ inl (so_far.cheapest r before l)
          | inr same ↦ inr same
        ] in
        elim (added.lost r one) [
          | inl there ↦ there
          | inr outdone ↦ absurd (let no_less = l.least outdone.by (known outdone.by outdone.one) outdone.state in omega (arith, no_less, outdone.cheaper))
        ];
    first = λ one. added.first (λ r among. one r row (so_far.from r among) in_rows) (so_far.first one);
  }
    where
      known : (r : Row) → IsOneMore kept row r → IsAmong r rows
      known r (inl before) = so_far.from r before
      known r (inr same) = subst (λ (s : Row). IsAmong s rows) (sym same) in_rows

pub pruned_all : (price : ℕ → ℕ) (below : Option ℕ) (t u : TableData) (i : ℕ) (kept : List Row) (run : Run) → length t.rows ≤ i → IsPruned price below t.rows i kept run → ((r : Row) → IsAmong r u.rows → IsAmong r kept) → ((r : Row) → IsAmong r kept → IsAmong r u.rows)
    → HasCheapest price below t u
pruned_all price below t u i kept run past so_far from to = record {
  rows = λ r among. so_far.from r (from r among);
  cheap = λ r among. so_far.cheap r (from r among);
  cheapest = λ r l. to r (so_far.cheapest r (subst (IsAmong r) (sym (take_all i t.rows past)) l.one) l);
  alike = λ one x y in_x in_y. priced one x (from x in_x) ∙ sym (priced one y (from y in_y));
}
  where
    priced : HaveOneState (λ r. IsAmong r t.rows) → (r : Row) → IsAmong r kept → price r.marks ≡ run.price
    priced one r among = so_far.run_is.prices r (subst (λ n. IsAmong r (drop n kept)) (sym (so_far.first one)) among)
