-- Lists of tables whose joint rows have the same minimal marks.
use Rattle.std.proofs.Common.{◌≡◌, ◌<◌, ◌≤◌, ℕ, eqb, cond, Bool, true, false, List, [], ◌∷◌, length, get_or, refl, sym, ap, ◌∙◌, subst, ◌↔◌, arith}
use Rattle.std.proofs.lemmas.Bool.Decides.{nat_tests}
use Rattle.std.proofs.lemmas.List.Edits.{Swapped, swapped_from_swap, length-swap}
use Rattle.std.proofs.lemmas.List.Sorted.{IsPermutation-keeps, IsPermutation-sym}
use Rattle.std.specs.List.{AllByRecursion, AllZip, swap}
use Rattle.std.specs.List.Sorted.{IsPermutation}
use Rattle.mcs_sets.specs.Sets.{has, size, Within}
use Rattle.mcs_sets.proofs.Lattice.{within_antisymmetric, size_within}
use Rattle.mcs_base.specs.Listings.{IsAmong}
use Rattle.mcs_base.specs.Minimal.{IsMinimal}
use Rattle.mcs_base.specs.Partials.{PartialState, Fits}
use Rattle.mcs_base.proofs.Among.{zip_among}
use Rattle.mcs_base.proofs.Each.{all_from_among}
use Rattle.mcs_base.proofs.Lists.{length_zip, zip_get_or}
use Rattle.mcs_base.proofs.Zipped.{zip_weaker}
use Rattle.mcs_table.specs.declared.row.Row.{Row}
use Rattle.mcs_table.specs.Tables.{TableData, IsTable, ShareNoMark, unit_table}
use Rattle.mcs_table.specs.Joins.{union_of, united_rows, FitTogether}
use Rattle.mcs_table.specs.Elimination.{AreJointMarks}
use Rattle.mcs_table.specs.Fitting.{AreFittingAfter}
use Rattle.mcs_table.proofs.FittingParts.{IsWithin, fitting_below, fitting_parts, fitting_rows}
use Rattle.mcs_table.proofs.OrderFreeLemmas.{in_some, joint_moved, some_in}
use Rattle.mcs_joint.specs.Apart.{EachApart}
use Rattle.mcs_joint.specs.Reduced.{HasFewMarks}

-- ---- the same minimal marks
-- the joint rows of the second list are marks of the first, and each of the first has one of the second within it
pub record MarksCover (level : ℕ) (ts us : List TableData) : Type 0 where
  pub from : (s : ℕ) → AreJointMarks level us s → AreJointMarks level ts s
  pub below : (s : ℕ) → AreJointMarks level ts s → (t : ℕ) × AreJointMarks level us t × Within t s

pub cover_minimal : (level : ℕ) (ts us : List TableData) → MarksCover level ts us → (s : ℕ) → IsMinimal (AreJointMarks level us) s ↔ IsMinimal (AreJointMarks level ts) s
cover_minimal level ts us c s = (
  λ h. record {
    one = c.from s h.one;
    least = λ t marks within.
        let (u, marks', inside) = c.below t marks in
        let same = h.least u marks' (λ v i. within v (inside v i)) in
        within_antisymmetric t s within (subst (λ w. Within w t) same inside);
  },
  λ h.
      let (u, marks, inside) = c.below s h.one in
      let same : u ≡ s = h.least u (c.from u marks) inside in
      record { one = subst (AreJointMarks level us) same marks; least = λ t marks' within. h.least t (c.from t marks') within },
)

pub covers-trans : (level : ℕ) (ts us vs : List TableData) → MarksCover level ts us → MarksCover level us vs → MarksCover level ts vs
covers-trans level ts us vs c d = record {
  from = λ s h. c.from s (d.from s h);
  below = λ s h. let (t, marks, within) = c.below s h in let (u, marks', within') = d.below t marks in (u, marks', λ k i. within k (within' k i));
}

-- ---- the rows with few marks
-- u has some of the rows of t, and for each of these with few marks one of its state with marks within its marks
pub record IsThinned (level : ℕ) (t u : TableData) : Type 0 where
  pub among : (p : Row) → IsAmong p u.rows → IsAmong p t.rows
  pub below : (p : Row) → IsAmong p t.rows → size p.marks ≤ level → (q : Row) × IsAmong q u.rows × IsWithin q p

few_thins : (level : ℕ) (t u : TableData) → HasFewMarks level t u → IsThinned level t u
few_thins level t u h = record {
  among = λ p among. ((h.rows.exactly p).0 among).0;
  below = λ p among few. (p, (h.rows.exactly p).1 (among, few), (refl, λ k i. i));
}

-- parts of the one list of tables, and within them parts of the other
parts_below : (level : ℕ) (ts us : List TableData) → AllZip (IsThinned level) ts us → (ps : List Row) → AllZip (λ (p : Row) (t : TableData). IsAmong p t.rows) ps ts → AllByRecursion (λ (p : Row). size p.marks ≤ level) ps
    → (qs : List Row) × AllZip (λ (q : Row) (u : TableData). IsAmong q u.rows) qs us × AllZip IsWithin qs ps
parts_below level [] [] all [] zip few = ([], tt, tt)
parts_below level [] [] all (p ∷ ps) zip few = absurd zip
parts_below level [] (u ∷ us) all ps zip few = absurd all
parts_below level (t ∷ ts) [] all ps zip few = absurd all
parts_below level (t ∷ ts) (u ∷ us) all [] zip few = absurd zip
parts_below level (t ∷ ts) (u ∷ us) all (p ∷ ps) zip few =
    let (q, there, within) = all.0.below p zip.0 few.0 in
    let (qs, zips, both) = parts_below level ts us all.1 ps zip.1 few.1 in
    (q ∷ qs, (there, zips), (within, both))

parts_among : (level : ℕ) (ts us : List TableData) → AllZip (IsThinned level) ts us → (ps : List Row) → AllZip (λ (p : Row) (u : TableData). IsAmong p u.rows) ps us → AllZip (λ (p : Row) (t : TableData). IsAmong p t.rows) ps ts
parts_among level [] [] all ps zip = zip
parts_among level [] (u ∷ us) all ps zip = absurd all
parts_among level (t ∷ ts) [] all ps zip = absurd all
parts_among level (t ∷ ts) (u ∷ us) all [] zip = absurd zip
parts_among level (t ∷ ts) (u ∷ us) all (p ∷ ps) zip = (all.0.among p zip.0, parts_among level ts us all.1 ps zip.1)

-- rows of the same states fit together where the others do, and have no more marks together
within_fit : (qs ps : List Row) → AllZip IsWithin qs ps → FitTogether ps → FitTogether qs
within_fit qs ps zip fit x y in_x in_y =
    let (p, in_p, same) = zip_among IsWithin qs ps zip x in_x in
    let (p', in_p', same') = zip_among IsWithin qs ps zip y in_y in
    subst (λ (s : PartialState). Fits s y.state) (sym same.0) (subst (λ (s : PartialState). Fits p.state s) (sym same'.0) (fit p p' in_p in_p'))

within_marks : (qs ps : List Row) → AllZip IsWithin qs ps → Within (union_of (λ (r : Row). r.marks) qs) (union_of (λ (r : Row). r.marks) ps)
within_marks qs ps zip k h =
    let (q, in_q, there) = in_some (λ (r : Row). r.marks) qs k h in
    let (p, in_p, same) = zip_among IsWithin qs ps zip q in_q in
    some_in (λ (r : Row). r.marks) ps k p in_p (same.1 k there)

-- so they are joint rows with no more marks
smaller : (level : ℕ) (us : List TableData) (s : ℕ) (r : Row) (ps qs : List Row) → s ≡ r.marks → FitTogether ps → r ≡ united_rows ps → size r.marks ≤ level → AllZip (λ (q : Row) (u : TableData). IsAmong q u.rows) qs us → AllZip IsWithin qs ps
    → (t : ℕ) × AreJointMarks level us t × Within t s
smaller level us s r ps qs e fit is few zips both =
    let marks : r.marks ≡ union_of (λ (w : Row). w.marks) ps = ap (λ (w : Row). w.marks) is in
    let within : Within (union_of (λ (w : Row). w.marks) qs) r.marks = λ k h. subst (λ n. has n k ≡ true) (sym marks) (within_marks qs ps both k h) in
    let le = size_within _ r.marks within in (
      union_of (λ (w : Row). w.marks) qs,
      (united_rows qs, record { parts = qs; of_tables = zips; fit = within_fit qs ps both fit; is = refl; few = omega (arith, le, few) }, refl),
      λ k h. subst (λ n. has n k ≡ true) (sym e) (within k h),
    )

pub thinned_cover : (level : ℕ) (ts us : List TableData) → AllZip (IsThinned level) ts us → MarksCover level ts us
thinned_cover level ts us all = record {
  from = λ s (r, j, e). (r, record { parts = j.parts; of_tables = parts_among level ts us all j.parts j.of_tables; fit = j.fit; is = j.is; few = j.few }, e);
  below = λ s (r, j, e).
      let marks : r.marks ≡ union_of (λ (w : Row). w.marks) j.parts = ap (λ (w : Row). w.marks) j.is in
      let few : AllByRecursion (λ (p : Row). size p.marks ≤ level) j.parts = all_from_among (λ (p : Row). size p.marks ≤ level) j.parts (λ p among.
      let le = size_within p.marks r.marks (λ k h. subst (λ n. has n k ≡ true) (sym marks) (some_in (λ (w : Row). w.marks) j.parts k p among h)) in let few' = j.few in omega arith) in
      let (qs, zips, both) = parts_below level ts us all j.parts j.of_tables few in
      smaller level us s r j.parts qs e j.fit j.is j.few zips both;
}

pub few_cover : (level : ℕ) (ts us : List TableData) → AllZip (HasFewMarks level) ts us → MarksCover level ts us
few_cover level ts us all = thinned_cover level ts us (zip_weaker (HasFewMarks level) (IsThinned level) (λ t u h. few_thins level t u h) ts us all)

-- ---- another order, and rows that fit those of the tables before
pub moved_cover : (level : ℕ) (ts us : List TableData) → IsPermutation ts us → MarksCover level ts us
moved_cover level ts us moved = record {
  from = λ s (r, j, e). (r, joint_moved level r us ts (IsPermutation-sym ts us moved) j, e);
  below = λ s (r, j, e). (s, (r, joint_moved level r ts us moved j, e), λ k i. i);
}

pub fitting_cover : (level : ℕ) (ts us : List TableData) → AreFittingAfter [] ts us → MarksCover level ts us
fitting_cover level ts us made = record {
  from = λ s (r, j, e). (r, record { parts = j.parts; of_tables = fitting_parts [] ts us made j.parts j.of_tables; fit = j.fit; is = j.is; few = j.few }, e);
  below = λ s (r, j, e).
      let (qs, zips, within) = fitting_below j.parts j.fit [] ts us made tt j.parts (λ p among. among) j.of_tables in
      smaller level us s r j.parts qs e j.fit j.is j.few zips within;
}

-- ---- no mark in common
module _ (xs : List TableData) (a b : ℕ) (less_a : a < length xs) (less_b : b < length xs) where
  abbrev place : ℕ → ℕ
  place i = cond (eqb i a) b (cond (eqb i b) a i)

  placed : (i : ℕ) → get_or (swap xs a b) i unit_table ≡ get_or xs (place i) unit_table
  placed i = at (swapped_from_swap xs (swap xs a b) a b unit_table less_a less_b refl) (eqb i a) refl (eqb i b) refl
    where
      at : Swapped (λ k. get_or xs k unit_table) (λ k. get_or (swap xs a b) k unit_table) a b → (u : Bool) → eqb i a ≡ u → (v : Bool) → eqb i b ≡ v → get_or (swap xs a b) i unit_table ≡ get_or xs (cond u b (cond v a i)) unit_table
      at s true e v e' = let same : i ≡ a = grind (arith, nat_tests) in ap (λ k. get_or (swap xs a b) k unit_table) same ∙ s.0
      at s false e true e' = let same : i ≡ b = grind (arith, nat_tests) in ap (λ k. get_or (swap xs a b) k unit_table) same ∙ s.1
      at s false e false e' = s.2 i (λ same. grind (arith, nat_tests)) (λ same. grind (arith, nat_tests))

  place_in : (i : ℕ) → i < length xs → place i < length xs
  place_in i less = at (eqb i a) (eqb i b)
    where
      at : (u v : Bool) → cond u b (cond v a i) < length xs
      at true v = less_b
      at false true = less_a
      at false false = less

  place_one : (i j : ℕ) → ¬ (i ≡ j) → ¬ (place i ≡ place j)
  place_one i j differ same = differ (at (eqb i a) refl (eqb i b) refl (eqb j a) refl (eqb j b) refl same)
    where
      at : (u : Bool) → eqb i a ≡ u → (v : Bool) → eqb i b ≡ v → (u' : Bool) → eqb j a ≡ u' → (v' : Bool) → eqb j b ≡ v' → cond u b (cond v a i) ≡ cond u' b (cond v' a j) → i ≡ j
      at true e v f true e' v' f' same = grind (arith, nat_tests)
      at true e v f false e' true f' same = grind (arith, nat_tests)
      at true e v f false e' false f' same = grind (arith, nat_tests)
      at false e true f true e' v' f' same = grind (arith, nat_tests)
      at false e true f false e' true f' same = grind (arith, nat_tests)
      at false e true f false e' false f' same = grind (arith, nat_tests)
      at false e false f true e' v' f' same = grind (arith, nat_tests)
      at false e false f false e' true f' same = grind (arith, nat_tests)
      at false e false f false e' false f' same = same

  apart_swap : EachApart xs → EachApart (swap xs a b)
  apart_swap apart = record { at = moved }
    where
      moved : (i j : ℕ) → i < length (swap xs a b) → j < length (swap xs a b) → ¬ (i ≡ j) → ShareNoMark (get_or (swap xs a b) i unit_table).rows (get_or (swap xs a b) j unit_table).rows
      moved i j less_i less_j differ =
          let long = length-swap xs a b in
          let h = apart.at (place i) (place j) (place_in i (omega arith)) (place_in j (omega arith)) (place_one i j differ) in
          subst (λ (t : TableData). ShareNoMark t.rows (get_or (swap xs a b) j unit_table).rows) (sym (placed i)) (subst (λ (t : TableData). ShareNoMark (get_or xs (place i) unit_table).rows t.rows) (sym (placed j)) h)

pub apart_moved : (ts us : List TableData) → IsPermutation ts us → EachApart ts → EachApart us
apart_moved ts us moved apart = IsPermutation-keeps ts EachApart apart (λ l i j less_i less_j h. apart_swap l i j less_i less_j h) us moved

-- tables with some of the rows of others have no more marks in common
pub apart_fewer : (ts us : List TableData) → AllZip (λ (t u : TableData). (p : Row) → IsAmong p u.rows → IsAmong p t.rows) ts us → EachApart ts → EachApart us
apart_fewer ts us zip apart = record { at = fewer }
  where
    fewer : (i j : ℕ) → i < length us → j < length us → ¬ (i ≡ j) → ShareNoMark (get_or us i unit_table).rows (get_or us j unit_table).rows
    fewer i j less_i less_j differ x y in_x in_y =
        let long = length_zip (λ (t u : TableData). (p : Row) → IsAmong p u.rows → IsAmong p t.rows) ts us zip in
        let at_i = zip_get_or (λ (t u : TableData). (p : Row) → IsAmong p u.rows → IsAmong p t.rows) ts us i unit_table unit_table zip (omega arith) in
        let at_j = zip_get_or (λ (t u : TableData). (p : Row) → IsAmong p u.rows → IsAmong p t.rows) ts us j unit_table unit_table zip (omega arith) in
        apart.at i j (omega arith) (omega arith) differ x y (at_i x in_x) (at_j y in_y)

pub apart_few : (level : ℕ) (ts us : List TableData) → AllZip (HasFewMarks level) ts us → EachApart ts → EachApart us
apart_few level ts us all = apart_fewer ts us (zip_weaker (HasFewMarks level) (λ (t u : TableData). (p : Row) → IsAmong p u.rows → IsAmong p t.rows) (λ t u h. (few_thins level t u h).among) ts us all)

pub apart_fitting : (ts us : List TableData) → AreFittingAfter [] ts us → EachApart ts → EachApart us
apart_fitting ts us made = apart_fewer ts us (fitting_rows [] ts us made)

pub few_are_tables : (level : ℕ) (ts us : List TableData) → AllZip (HasFewMarks level) ts us → AllByRecursion IsTable us
few_are_tables level [] [] all = tt
few_are_tables level [] (u ∷ us) all = absurd all
few_are_tables level (t ∷ ts) [] all = absurd all
few_are_tables level (t ∷ ts) (u ∷ us) all = (all.0.table, few_are_tables level ts us all.1)
