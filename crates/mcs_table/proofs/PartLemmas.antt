-- What is left of an elimination where there is a joint row, and what the parts of a joint row say.
use Rattle.std.proofs.Common.{◌≡◌, ◌<◌, ℕ, zero, suc, Bool, true, false, true≢false, List, length, refl, sym, ap, ◌∙◌, subst, inl, inr, arith}
use Rattle.std.proofs.lemmas.Bool.{false_from_ne_true}
use Rattle.std.specs.List.{AllByRecursion}
use Rattle.mcs_sets.specs.Sets.{has, minus, size}
use Rattle.mcs_sets.proofs.SetLemmas.{members_below}
use Rattle.mcs_sets.proofs.Lattice.{in_minus, nothing_missing, size-less}
use Rattle.mcs_sets.proofs.Changes.{some_member}
use Rattle.mcs_base.specs.Listings.{IsAmong}
use Rattle.mcs_base.proofs.Among.{among_at, zip_among}
use Rattle.mcs_base.proofs.Each.{all_among}
use Rattle.mcs_base.proofs.ListingLemmas.{none_listed}
use Rattle.mcs_table.specs.declared.row.Row.{Row}
use Rattle.mcs_table.specs.Tables.{TableData, IsTable, IsMinimalRow, unit_row}
use Rattle.mcs_table.specs.Joins.{union_of, IsJointRow}
use Rattle.mcs_table.specs.Elimination.{EliminatesTo, IsRestrictionOf}
use Rattle.mcs_table.proofs.EliminationLemmas.{elimination_is_minimal}
use Rattle.mcs_table.proofs.JoinLemmas.{row_of}
use Rattle.mcs_table.proofs.OrderFreeLemmas.{in_some, some_in}

-- ---- whether there is a joint row
-- where no row is minimal, there is none
no_minimal : (P : Row → Type 0) → ((x : Row) → ¬ IsMinimalRow P x) → (n : ℕ) (x : Row) → size x.marks < n → ¬ P x
no_minimal P none zero x few p = omega arith
no_minimal P none (suc n) x few p = none x (record {
  one = p;
  least = λ y q state within. elim (some_member (minus x.marks y.marks)) [
    | inl nothing ↦ nothing_missing y.marks x.marks within nothing
    | inr (k, missing) ↦
        let (in_x, not_in_y) = in_minus x.marks y.marks k missing in
        let less = size-less x.marks y.marks k within in_x not_in_y in
        absurd (no_minimal P none n y (omega arith) q)
  ];
})

-- something is left of an elimination exactly where there is a joint row
module _ (level : ℕ) (ts : List TableData) (t : TableData) (are : AllByRecursion IsTable ts) (left : EliminatesTo level 0 ts t) where
  pub none_left : length t.rows ≡ 0 → ¬ ((r : Row) × IsJointRow level ts r)
  none_left none (r, joint) =
      let P = IsRestrictionOf (IsJointRow level ts) 0 in
      no_minimal P (none_listed (IsMinimalRow P) _ t.rows none (elimination_is_minimal level 0 ts t are left).rows) (suc (size r.marks)) _ (omega arith) (record { row = r; holds = joint; is = refl })

  pub some_left : 0 < length t.rows → (r : Row) × IsJointRow level ts r
  some_left some =
      let least = (((elimination_is_minimal level 0 ts t are left).rows.exactly _).0 (among_at t.rows 0 unit_row some)).one in
      (least.row, least.holds)

-- ---- what a joint row says
abbrev pub IsPartOf : Row → TableData → Type 0
IsPartOf p t = IsAmong p t.rows

module _ (level : ℕ) (ts : List TableData) (are : AllByRecursion IsTable ts) (r : Row) (joint : IsJointRow level ts r) where
  -- what is true in a part is of its variables
  part_true : (p : Row) → IsAmong p joint.parts → (v : ℕ) → has p.state.values v ≡ true → (t : TableData) × IsAmong t ts × ((has t.scope v ≡ true) × (v < 64))
  part_true p among v is =
      let (t, there, of) = zip_among IsPartOf joint.parts ts joint.of_tables p among in
      let on = row_of t (all_among IsTable ts t are there) p of in
      let inside = on.partial.of_mask v is in
      (t, there, (subst (λ (m : ℕ). has m v ≡ true) on.mask inside, members_below p.state.mask 64 v on.partial.small inside))

  values_are : r.state.values ≡ union_of (λ (p : Row). p.state.values) joint.parts
  values_are = ap (λ (w : Row). w.state.values) joint.is

  mask_is : r.state.mask ≡ union_of (λ (p : Row). p.state.mask) joint.parts
  mask_is = ap (λ (w : Row). w.state.mask) joint.is

  true_part : (v : ℕ) → has r.state.values v ≡ true → (p : Row) × IsAmong p joint.parts × (has p.state.values v ≡ true)
  true_part v is = in_some (λ (p : Row). p.state.values) joint.parts v (subst (λ (s : ℕ). has s v ≡ true) values_are is)

  -- it holds variables of the tables alone
  pub joint_below : (v : ℕ) → has r.state.values v ≡ true → v < 64
  joint_below v is = let (p, among, here) = true_part v is in (part_true p among v here).2.1

  pub joint_absent : (v : ℕ) → has (union_of (λ (t : TableData). t.scope) ts) v ≡ false → has r.state.values v ≡ false
  joint_absent v absent = false_from_ne_true _ (λ is.
      let (p, among, here) = true_part v is in
      let (t, there, both) = part_true p among v here in
      true≢false (sym (some_in (λ (w : TableData). w.scope) ts v t there both.0) ∙ absent))

  -- a part gives a variable the value that the joint row gives it
  pub part_same : (p : Row) → IsAmong p joint.parts → (v : ℕ) → has p.state.mask v ≡ true → has p.state.values v ≡ has r.state.values v
  part_same p among v in_mask = at (has p.state.values v) refl (has r.state.values v) refl
    where
      at : (a : Bool) → has p.state.values v ≡ a → (b : Bool) → has r.state.values v ≡ b → has p.state.values v ≡ has r.state.values v
      at true e true e' = e ∙ sym e'
      at false e false e' = e ∙ sym e'
      at true e false e' = absurd (true≢false (sym (some_in (λ (q : Row). q.state.values) joint.parts v p among e) ∙ (ap (λ (s : ℕ). has s v) (sym values_are) ∙ e')))
      at false e true e' =
          let (q, in_q, here) = true_part v e' in
          let (t, there, of) = zip_among IsPartOf joint.parts ts joint.of_tables q in_q in
          let on = row_of t (all_among IsTable ts t are there) q of in
          absurd (true≢false (sym here ∙ (sym (joint.fit p q among in_q v in_mask (on.partial.of_mask v here)) ∙ e)))
