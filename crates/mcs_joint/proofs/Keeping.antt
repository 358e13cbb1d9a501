-- Leaving out the rows whose marks hold one of some sets: of a table, of an elimination, and where the minimal diagnoses are looked for.
use Rattle.std.proofs.Common.{◌≡◌, ◌<◌, ◌≤◌, ◌+◌, ℕ, Bool, true, false, not, IsTrue, List, [], ◌∷◌, ◌++◌, length, map, get_or, drop, filter, refl, sym, subst, inl, inr, ◌⊎◌, ◌↔◌, true≢false}
use Rattle.std.specs.List.{AllByRecursion}
use Rattle.mcs_sets.specs.Sets.{size, Within}
use Rattle.mcs_sets.specs.Orders.{PairBefore}
use Rattle.mcs_sets.proofs.Lattice.{cases_within}
use Rattle.mcs_base.specs.Antichains.{HasOneWithin}
use Rattle.mcs_base.specs.Listings.{IsAmong, IsListing}
use Rattle.mcs_base.specs.Minimal.{IsMinimal}
use Rattle.mcs_base.proofs.Among.{among_append, among_map, map_among}
use Rattle.mcs_base.proofs.AntichainLemmas.{one_within-none}
use Rattle.mcs_base.proofs.Booleans.{test_of, test_of-tells}
use Rattle.mcs_base.proofs.Each.{all_among, all_from_among}
use Rattle.mcs_base.proofs.ListingLemmas.{IsListing-same, IsListing-filter}
use Rattle.mcs_table.specs.declared.row.Row.{Row}
use Rattle.mcs_table.specs.RowOrder.{RowBefore}
use Rattle.mcs_table.specs.Tables.{TableData, IsTable, IsRowOn, ShareNoMark, IsJoin, IsForgetting, unit_table}
use Rattle.mcs_table.specs.Elimination.{still_kept, EliminatesTo}
use Rattle.mcs_table.proofs.TableLemmas.{unit-kept}
use Rattle.mcs_table.proofs.ExistLemmas.{join_exists}
use Rattle.mcs_table.proofs.EliminationLemmas.{forgetting_exists, elimination_is_minimal}
use Rattle.mcs_joint.specs.Apart.{EachApart}
use Rattle.mcs_table.specs.Without.{IsWithout}
use Rattle.mcs_joint.proofs.Eliminating.{IsLeft, left_begin, next_apart, left_more, left_end}
use Rattle.mcs_table.proofs.WithoutLemmas.{join_without, forget_without, without_none}

-- ---- the test of a row
-- whether one of the sets lies within the marks can be told
pub some_within : (sets : List ℕ) (m : ℕ) → HasOneWithin sets m ⊎ (¬ HasOneWithin sets m)
some_within [] m = inr (one_within-none m)
some_within (x ∷ xs) m = elim (cases_within x m) [
  | inl within ↦ inl (record { inner = x; among = inl refl; within = within })
  | inr not_here ↦ elim (some_within xs m) [
    | inl h ↦ inl (record { inner = h.inner; among = inr h.among; within = h.within })
    | inr none ↦ inr (λ h. at h.inner h.within h.among not_here none)
  ]
]
  where
    at : (y : ℕ) → Within y m → (y ≡ x) ⊎ IsAmong y xs → ¬ Within x m → ¬ HasOneWithin xs m → ⊥
    at y within (inl e) not_here none = not_here (subst (λ (z : ℕ). Within z m) e within)
    at y within (inr among) not_here none = none (record { inner = y; among = among; within = within })

abbrev pub holds_none : List ℕ → Row → Bool
holds_none sets r = not (test_of (some_within sets r.marks))

-- what a closure answers that asks whether a row holds none
pub answers_none : (sets : List ℕ) (r : Row) (v : Bool) → (v ≡ true) ↔ HasOneWithin sets r.marks → not v ≡ holds_none sets r
answers_none sets r v known = at v known (test_of (some_within sets r.marks)) (test_of-tells (some_within sets r.marks))
  where
    at : (v : Bool) → (v ≡ true) ↔ HasOneWithin sets r.marks → (w : Bool) → (w ≡ true) ↔ HasOneWithin sets r.marks → not v ≡ not w
    at true known true tells = refl
    at false known false tells = refl
    at true known false tells = absurd (true≢false (sym (tells.1 (known.0 refl))))
    at false known true tells = absurd (true≢false (sym (known.1 (tells.0 refl))))

none_held : (sets : List ℕ) (r : Row) → IsTrue (holds_none sets r) ↔ (¬ HasOneWithin sets r.marks)
none_held sets r = at (test_of (some_within sets r.marks)) (test_of-tells (some_within sets r.marks))
  where
    at : (w : Bool) → (w ≡ true) ↔ HasOneWithin sets r.marks → IsTrue (not w) ↔ (¬ HasOneWithin sets r.marks)
    at true tells = (λ h. absurd (true≢false (sym h)), λ none. absurd (none (tells.0 refl)))
    at false tells = (λ h held. true≢false (sym (tells.1 held)), λ none. refl)

-- ---- the rows of a table that hold none
module _ (sets : List ℕ) (t : TableData) (is : IsTable t) where
  listed_without : IsListing (λ r. IsAmong r t.rows × (¬ HasOneWithin sets r.marks)) RowBefore (filter (holds_none sets) t.rows)
  listed_without = IsListing-same RowBefore (λ r. IsAmong r t.rows × IsTrue (holds_none sets r)) (λ r. IsAmong r t.rows × (¬ HasOneWithin sets r.marks)) (filter (holds_none sets) t.rows)
      (λ r. (λ h. (h.0, (none_held sets r).0 h.1), λ h. (h.0, (none_held sets r).1 h.1)))
      (IsListing-filter RowBefore (λ r. IsAmong r t.rows) (holds_none sets) t.rows (record { exactly = λ r. (λ h. h, λ h. h); ascending = is.ascending }))

  pub filtered_without : IsWithout sets t (record { scope = t.scope; rows = filter (holds_none sets) t.rows })
  filtered_without = record { scope = refl; rows = listed_without }

  pub filtered_table : IsTable (record { scope = t.scope; rows = filter (holds_none sets) t.rows })
  filtered_table = record {
    on_scope = all_from_among (IsRowOn t.scope) (filter (holds_none sets) t.rows) (λ r among. all_among (IsRowOn t.scope) t.rows r is.on_scope ((listed_without.exactly r).0 among).0);
    ascending = listed_without.ascending;
  }

-- ---- eliminating one table after the other
-- what is left of the first k of the tables, without the rows that hold one
pub record IsLeftWithout (sets : List ℕ) (level : ℕ) (tables : List TableData) (k : ℕ) (left : TableData) : Type 0 where
  pub whole : TableData
  pub table : IsTable whole
  pub is_left : IsLeft level tables k whole
  pub without : IsWithout sets whole left

pub without_begin : (sets : List ℕ) (level : ℕ) (tables : List TableData) (left : TableData) → IsWithout sets unit_table left → IsLeftWithout sets level tables 0 left
without_begin sets level tables left w = record { whole = unit_table; table = unit-kept; is_left = left_begin level tables; without = w }

module _ (sets : List ℕ) (level : ℕ) (tables : List TableData) (k : ℕ) (left a : TableData) (less : k < length tables) (here : a ≡ get_or tables k a) (so_far : IsLeftWithout sets level tables k left) where
  pub without_apart : ShareNoMark left.rows a.rows
  without_apart x y in_x in_y = next_apart level tables k so_far.whole a less here so_far.is_left x y ((so_far.without.rows.exactly x).0 in_x).0 in_y

  pub without_more : IsTable a → EachApart tables → (joined fewer next : TableData) → IsJoin left a level joined → IsWithout sets joined fewer → IsForgetting fewer (still_kept 0 (drop (k + 1) tables)) next
      → IsLeftWithout sets level tables (k + 1) next
  without_more is_a apart joined fewer next join less_joined forget =
      let keep = still_kept 0 (drop (k + 1) tables) in
      let (all, is_all, join_all) = join_exists so_far.whole a level so_far.table is_a in
      let (rest, is_rest, forget_all) = forgetting_exists all keep is_all in
      record {
        whole = rest;
        table = is_rest;
        is_left = left_more level tables k so_far.whole a less here so_far.is_left apart all rest join_all forget_all;
        without = forget_without sets all fewer keep (join_without sets so_far.whole left a level so_far.without all joined fewer join_all join less_joined) rest next forget_all forget;
      }

pub without_end : (sets : List ℕ) (level : ℕ) (tables : List TableData) (k : ℕ) (left : TableData) → length tables ≤ k → IsLeftWithout sets level tables k left → (whole : TableData) × EliminatesTo level 0 tables whole × IsWithout sets whole left
without_end sets level tables k left past so_far = (so_far.whole, left_end level tables k so_far.whole past so_far.is_left, so_far.without)

-- where no sets are given, all is left
pub left_whole : (level : ℕ) (tables : List TableData) (left : TableData) → AllByRecursion IsTable tables → (whole : TableData) × EliminatesTo level 0 tables whole × IsWithout [] whole left → EliminatesTo level 0 tables left
left_whole level tables left are (whole, eliminates, without) =
    subst (EliminatesTo level 0 tables) (sym (without_none whole left (elimination_is_minimal level 0 tables whole are eliminates).rows.ascending without)) eliminates

-- ---- the minimal ones that are known, and those that hold none of them
abbrev marks : Row → ℕ
marks r = r.marks

pub known_listed : (P : ℕ → Type 0) (level : ℕ) (sets : List ℕ) (whole t : TableData) (pairs : List ℕ) → AllByRecursion (λ p. IsMinimal P p × (size p ≤ level)) sets → IsWithout sets whole t
    → ((p : ℕ) → ¬ HasOneWithin sets p → IsAmong p (map (λ (r : Row). r.marks) whole.rows) ↔ (IsMinimal P p × (size p ≤ level)))
    → IsListing (λ p. IsAmong p (map (λ (r : Row). r.marks) t.rows ++ sets)) PairBefore pairs
    → IsListing (λ p. IsMinimal P p × (size p ≤ level)) PairBefore pairs
known_listed P level sets whole t pairs known without told listed =
    IsListing-same PairBefore (λ p. IsAmong p (map marks t.rows ++ sets)) (λ p. IsMinimal P p × (size p ≤ level)) pairs (λ p. (there p, found p)) listed
  where
    there : (p : ℕ) → IsAmong p (map marks t.rows ++ sets) → IsMinimal P p × (size p ≤ level)
    there p h = elim ((among_append p (map marks t.rows) sets).0 h) [
      | inl left ↦ let (r, among, e) = map_among marks p t.rows left in
          let (here, none) = (without.rows.exactly r).0 among in
          (told p (subst (λ (q : ℕ). ¬ HasOneWithin sets q) (sym e) none)).0 (subst (λ (q : ℕ). IsAmong q (map marks whole.rows)) (sym e) (among_map marks r whole.rows here))
      | inr among ↦ all_among (λ q. IsMinimal P q × (size q ≤ level)) sets p known among
    ]

    found : (p : ℕ) → IsMinimal P p × (size p ≤ level) → IsAmong p (map marks t.rows ++ sets)
    found p h = elim (some_within sets p) [
      | inl held ↦
          let (one, few) = all_among (λ q. IsMinimal P q × (size q ≤ level)) sets held.inner known held.among in
          let same : held.inner ≡ p = h.0.least held.inner one.one held.within in
          (among_append p (map marks t.rows) sets).1 (inr (subst (λ (q : ℕ). IsAmong q sets) same held.among))
      | inr none ↦
          let (r, among, e) = map_among marks p whole.rows ((told p none).1 h) in
          let left : IsAmong r t.rows = (without.rows.exactly r).1 (among, λ held. none (subst (HasOneWithin sets) (sym e) held)) in
          (among_append p (map marks t.rows) sets).1 (inl (subst (λ (q : ℕ). IsAmong q (map marks t.rows)) (sym e) (among_map marks r t.rows left)))
    ]
