-- Rows that are added to a run, and rows that are dropped then.
use Rattle.std.proofs.Common.{◌≡◌, ℕ, ◌<◌, List, [], ◌∷◌, ◌++◌, length, take, drop, slice_get, Option, Some, None, refl, sym, ap, ◌∙◌, subst, inl, inr, ◌⊎◌, arith}
use Rattle.std.proofs.lemmas.List.{drop-append-le, drop_all, length-take-le}
use Rattle.std.proofs.lemmas.Option.{slice_get_within}
use Rattle.mcs_base.specs.Listings.{IsAmong}
use Rattle.mcs_base.proofs.Among.{among_from, among_parts, among_push, take_among, drop_among}
use Rattle.mcs_table.specs.declared.row.Row.{Row}
use Rattle.mcs_elimination.specs.Runs.{BeginsWith, IsAdded, IsRun}
use Rattle.mcs_elimination.specs.declared.run.Run.{Run}

-- ---- a run of one row
module _ (price : ℕ → ℕ) (row : Row) (rows : List Row) (next : Run) (from : next.from ≡ length rows) (is : next.price ≡ price row.marks) where
  alone : (r : Row) → IsAmong r (drop next.from (rows ++ row ∷ [])) → r ≡ row
  alone r among =
      let all : drop next.from (rows ++ row ∷ []) ≡ row ∷ [] = ap (λ n. drop n (rows ++ row ∷ [])) from ∙ (drop-append-le (length rows) rows (row ∷ []) (omega arith) ∙ ap (λ (xs : List Row). xs ++ row ∷ []) (drop_all (length rows) rows (omega arith))) in
      elim (subst (IsAmong r) all among) [ inl e ↦ e | inr none ↦ absurd none ]

  own_run : IsRun price (rows ++ row ∷ []) next
  own_run = record {
    states = λ x y in_x in_y. ap (λ (r : Row). r.state) (alone x in_x ∙ sym (alone y in_y));
    prices = λ r among. ap (λ (x : Row). price x.marks) (alone r among) ∙ sym is;
  }

module _ (price : ℕ → ℕ) (row : Row) (rows : List Row) (run : Run) where
  pub begins_anew : (next : Run) → next.from ≡ length rows → next.price ≡ price row.marks → ¬ BeginsWith (slice_get rows run.from) row.state → IsAdded price row rows (rows ++ row ∷ []) run next
  begins_anew next from is other = record {
    from = λ r among. (among_push r rows row).0 among;
    lost = λ r one. inl ((among_push r rows row).1 one);
    run_is = own_run price row rows next from is;
    first = λ same begins. from ∙ empty rows same (subst (λ n. ¬ BeginsWith (slice_get rows n) row.state) begins other);
  }
    where
      empty : (xs : List Row) → ((r : Row) → IsAmong r xs → r.state ≡ row.state) → ¬ BeginsWith (slice_get xs 0) row.state → length xs ≡ 0
      empty [] same other = refl
      empty (x ∷ xs) same other = absurd (other (same x (inl refl)))

  -- ---- a row of its state
  module _ (is_run : IsRun price rows run) (begins : BeginsWith (slice_get rows run.from) row.state) where
    first_of : (o : Option Row) → slice_get rows run.from ≡ o → BeginsWith o row.state → (r : Row) × (slice_get rows run.from ≡ Some r) × (r.state ≡ row.state)
    first_of None is h = absurd h
    first_of (Some r) is h = (r, is, h)

    has_first : (r : Row) × IsAmong r (drop run.from rows) × (r.state ≡ row.state) × (run.from < length rows)
    has_first = let (r, is, state) = first_of (slice_get rows run.from) refl begins in (r, among_from rows run.from r is, state, slice_get_within rows run.from r is)

    pub too_dear : run.price < price row.marks → IsAdded price row rows rows run run
    too_dear dearer =
        let (r, among, state, less) = has_first in
        record {
          from = λ s here. inl here;
          lost = λ s one. elim one [
            | inl here ↦ inl here
            | inr same ↦ inr (record {
              by = r;
              one = inl (drop_among rows run.from r among);
              state = state ∙ sym (ap (λ (x : Row). x.state) same);
              cheaper = subst (λ (x : Row). price r.marks < price x.marks) (sym same) (omega (arith, is_run.prices r among, dearer));
            })
          ];
          run_is = is_run;
          first = λ same here. here;
        }

    pub as_dear : (next : Run) → next.from ≡ run.from → next.price ≡ price row.marks → price row.marks ≡ run.price → IsAdded price row rows (rows ++ row ∷ []) run next
    as_dear next from is equal = record {
      from = λ r among. (among_push r rows row).0 among;
      lost = λ r one. inl ((among_push r rows row).1 one);
      run_is = record { states = λ x y in_x in_y. of_run x in_x ∙ sym (of_run y in_y); prices = λ r among. priced r among };
      first = λ same here. from ∙ here;
    }
      where
        parts : (r : Row) → IsAmong r (drop next.from (rows ++ row ∷ [])) → IsAmong r (drop run.from rows) ⊎ (r ≡ row)
        parts r among =
            let (s, there, state, less) = has_first in
            let split : drop next.from (rows ++ row ∷ []) ≡ drop run.from rows ++ row ∷ [] = ap (λ n. drop n (rows ++ row ∷ [])) from ∙ drop-append-le run.from rows (row ∷ []) (omega (arith, less)) in
            (among_push r (drop run.from rows) row).0 (subst (IsAmong r) split among)

        of_run : (r : Row) → IsAmong r (drop next.from (rows ++ row ∷ [])) → r.state ≡ row.state
        of_run r among = let (s, there, state, less) = has_first in elim (parts r among) [
          | inl here ↦ is_run.states r s here there ∙ state
          | inr same ↦ ap (λ (x : Row). x.state) same
        ]

        priced : (r : Row) → IsAmong r (drop next.from (rows ++ row ∷ [])) → price r.marks ≡ next.price
        priced r among = elim (parts r among) [
          | inl here ↦ is_run.prices r here ∙ (sym equal ∙ sym is)
          | inr same ↦ ap (λ (x : Row). price x.marks) same ∙ sym is
        ]

    pub cheaper_one : (next : Run) → next.from ≡ run.from → next.price ≡ price row.marks → price row.marks < run.price → IsAdded price row rows (take run.from rows ++ row ∷ []) run next
    cheaper_one next from is cheaper =
        let (s, there, state, less) = has_first in
        record {
          from = λ r among. elim ((among_push r (take run.from rows) row).0 among) [
            | inl here ↦ inl (take_among rows run.from r here)
            | inr same ↦ inr same
          ];
          lost = λ r one. elim one [
            | inl here ↦ elim (among_parts rows run.from r here) [
              | inl before ↦ inl ((among_push r (take run.from rows) row).1 (inl before))
              | inr dropped ↦ inr (record { by = row; one = inr refl; state = sym state ∙ is_run.states s r there dropped; cheaper = omega (arith, is_run.prices r dropped, cheaper) })
            ]
            | inr same ↦ inl ((among_push r (take run.from rows) row).1 (inr same))
          ];
          run_is = own_run price row (take run.from rows) next (from ∙ sym (length-take-le run.from rows (omega (arith, less)))) is;
          first = λ same here. from ∙ here;
        }
