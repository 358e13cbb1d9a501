-- What taking rows without a partner away keeps.
use Rattle.std.proofs.Common.{◌≡◌, ◌<◌, ℕ, List, [], ◌∷◌, length, get_or, set, refl, sym, ap, ◌∙◌, subst, inl, inr, arith}
use Rattle.std.proofs.lemmas.Bool.{cases_eq}
use Rattle.std.proofs.lemmas.List.{get_or-set_same, get_or-set_other, length-set, get_or_default}
use Rattle.std.proofs.lemmas.List.Sorted.{IsPermutation-sym, length_permutation}
use Rattle.std.specs.List.{AllByRecursion, AllZip}
use Rattle.std.specs.List.Sorted.{IsPermutation}
use Rattle.mcs_sets.specs.Sets.{union, Within}
use Rattle.mcs_sets.proofs.Lattice.{size_within, union_within}
use Rattle.mcs_base.specs.Listings.{IsAmong}
use Rattle.mcs_base.proofs.Among.{among_permutation, among_at, set_among}
use Rattle.mcs_base.proofs.Each.{all_among, all_from_among}
use Rattle.mcs_base.proofs.Lists.{zip_get_or, length_zip}
use Rattle.mcs_base.proofs.Zipped.{zip_from_get_or}
use Rattle.mcs_table.specs.declared.row.Row.{Row}
use Rattle.mcs_table.specs.Tables.{TableData, IsTable, HasPartner, IsSemiJoin, ShareNoMark, unit_row, unit_table}
use Rattle.mcs_table.specs.Joins.{union_of, IsJointRow}
use Rattle.mcs_table.proofs.OrderFreeLemmas.{some_in, joint_moved, table_is}
use Rattle.mcs_table.proofs.SemiLemmas.{part_is_table}
use Rattle.mcs_joint.specs.Apart.{EachApart}
use Rattle.mcs_joint.specs.Reduced.{IsReduced}
use Rattle.mcs_joint.proofs.Covering.{MarksCover, apart_moved, apart_fewer}

pub reduced-refl : (level : ℕ) (ts : List TableData) → EachApart ts → IsReduced level ts ts
reduced-refl level ts apart = record { one_each = refl; tables = λ h. h; apart = apart; rows = λ u among r in_rows. (u, among, in_rows); joint = λ r. (λ h. h, λ h. h) }

pub reduced-trans : (level : ℕ) (ts us vs : List TableData) → IsReduced level ts us → IsReduced level us vs → IsReduced level ts vs
reduced-trans level ts us vs a b = record {
  one_each = b.one_each ∙ a.one_each;
  tables = λ h. b.tables (a.tables h);
  apart = b.apart;
  rows = λ v among r in_rows. let (u, there, in_u) = b.rows v among r in_rows in a.rows u there r in_u;
  joint = λ r. (λ h. (b.joint r).0 ((a.joint r).0 h), λ h. (a.joint r).1 ((b.joint r).1 h));
}

pub reduced_moved : (level : ℕ) (ts us : List TableData) → IsPermutation ts us → EachApart ts → IsReduced level ts us
reduced_moved level ts us moved apart = record {
  one_each = length_permutation ts us moved;
  tables = λ all. all_from_among IsTable us (λ t among. all_among IsTable ts t all ((among_permutation ts us moved t).0 among));
  apart = apart_moved ts us moved apart;
  rows = λ u among r in_rows. (u, (among_permutation ts us moved u).0 among, in_rows);
  joint = λ r. (joint_moved level r ts us moved, joint_moved level r us ts (IsPermutation-sym ts us moved));
}

pub reduced_covers : (level : ℕ) (ts us : List TableData) → IsReduced level ts us → MarksCover level ts us
reduced_covers level ts us reduced = record {
  from = λ s (r, j, e). (r, (reduced.joint r).1 j, e);
  below = λ s (r, j, e). (s, (r, (reduced.joint r).0 j, e), λ k h. h);
}

module _ (level : ℕ) (ts : List TableData) (i j : ℕ) (a b u : TableData) (less_i : i < length ts) (less_j : j < length ts) (differ : ¬ (i ≡ j)) (is_a : a ≡ get_or ts i a) (is_b : b ≡ get_or ts j b) (semi : IsSemiJoin a b level u) where
  at_i : get_or ts i unit_table ≡ a
  at_i = get_or_default ts i unit_table a less_i ∙ sym is_a

  at_j : get_or ts j unit_table ≡ b
  at_j = get_or_default ts j unit_table b less_j ∙ sym is_b

  -- what stands at each place afterwards
  placed : (R : TableData → TableData → Type 0) → R a u → ((t : TableData) → R t t) → (k : ℕ) → k < length ts → R (get_or ts k unit_table) (get_or (set ts i u) k unit_table)
  placed R here other k less = elim (cases_eq k i) [
    | inl same ↦ subst (λ n. R (get_or ts n unit_table) (get_or (set ts i u) n unit_table)) (sym same) (rw (at_i, get_or-set_same ts i u unit_table less_i) here)
    | inr apart ↦ rw (get_or-set_other ts i k u unit_table apart) (other (get_or ts k unit_table))
  ]

  fewer : AllZip (λ (t w : TableData). (p : Row) → IsAmong p w.rows → IsAmong p t.rows) ts (set ts i u)
  fewer = zip_from_get_or (λ (t w : TableData). (p : Row) → IsAmong p w.rows → IsAmong p t.rows) ts (set ts i u) unit_table unit_table (sym (length-set ts i u))
      (λ k less. placed (λ (t w : TableData). (p : Row) → IsAmong p w.rows → IsAmong p t.rows) (λ p among. ((semi.rows.exactly p).0 among).0) (λ t p among. among) k (let long = length-set ts i u in omega arith))

  back : (parts : List Row) (us : List TableData) (ws : List TableData) → AllZip (λ (t w : TableData). (p : Row) → IsAmong p w.rows → IsAmong p t.rows) us ws → AllZip (λ (p : Row) (w : TableData). IsAmong p w.rows) parts ws → AllZip (λ (p : Row) (t : TableData). IsAmong p t.rows) parts us
  back [] [] [] zip among = tt
  back [] [] (w ∷ ws) zip among = absurd zip
  back [] (t ∷ us) [] zip among = absurd zip
  back [] (t ∷ us) (w ∷ ws) zip among = absurd among
  back (p ∷ ps) [] [] zip among = absurd among
  back (p ∷ ps) [] (w ∷ ws) zip among = absurd zip
  back (p ∷ ps) (t ∷ us) [] zip among = absurd zip
  back (p ∷ ps) (t ∷ us) (w ∷ ws) zip among = (zip.0 p among.0, back ps us ws zip.1 among.1)

  -- the part of a joint row at i has the part at j as partner
  joint_has : (r : Row) (joint : IsJointRow level ts r) → HasPartner b.rows level (get_or joint.parts i unit_row)
  joint_has r joint =
      let R = λ (p : Row) (t : TableData). IsAmong p t.rows in
      let long = length_zip R joint.parts ts joint.of_tables in
      let p = get_or joint.parts i unit_row in
      let q = get_or joint.parts j unit_row in
      let in_p : IsAmong p joint.parts = among_at joint.parts i unit_row (omega arith) in
      let in_q : IsAmong q joint.parts = among_at joint.parts j unit_row (omega arith) in
      let marks : r.marks ≡ union_of (λ (w : Row). w.marks) joint.parts = ap (λ (w : Row). w.marks) joint.is in
      let within : Within (union p.marks q.marks) r.marks = subst (Within (union p.marks q.marks)) (sym marks)
      (union_within p.marks q.marks _ (λ k h. some_in (λ (w : Row). w.marks) joint.parts k p in_p h) (λ k h. some_in (λ (w : Row). w.marks) joint.parts k q in_q h)) in
      let le = size_within (union p.marks q.marks) r.marks within in
      let few = joint.few in
      record {
        partner = q;
        among = subst (λ (t : TableData). IsAmong q t.rows) at_j (zip_get_or R joint.parts ts j unit_row unit_table joint.of_tables (omega arith));
        fit = joint.fit p q in_p in_q;
        few = omega arith;
      }

  kept : (r : Row) → IsJointRow level ts r → IsJointRow level (set ts i u) r
  kept r joint =
      let R = λ (p : Row) (t : TableData). IsAmong p t.rows in
      let long = length_zip R joint.parts ts joint.of_tables in
      let parts = joint.parts in
      record {
        parts = parts;
        of_tables = zip_from_get_or R parts (set ts i u) unit_row unit_table (long ∙ sym (length-set ts i u)) (λ k less.
            let less' : k < length ts = (let same = length-set ts i u in omega arith) in
            let there : IsAmong (get_or parts k unit_row) (get_or ts k unit_table).rows = zip_get_or R parts ts k unit_row unit_table joint.of_tables (omega (arith, long)) in
            elim (cases_eq k i) [
              | inl same ↦
                  let in_a : IsAmong (get_or parts i unit_row) a.rows = subst (λ (t : TableData). IsAmong (get_or parts i unit_row) t.rows) at_i (subst (λ n. IsAmong (get_or parts n unit_row) (get_or ts n unit_table).rows) same there) in
                  subst (λ n. IsAmong (get_or parts n unit_row) (get_or (set ts i u) n unit_table).rows) (sym same)
                  (subst (λ (t : TableData). IsAmong (get_or parts i unit_row) t.rows) (sym (get_or-set_same ts i u unit_table less_i)) ((semi.rows.exactly (get_or parts i unit_row)).1 (in_a, joint_has r joint)))
              | inr apart ↦ subst (λ (t : TableData). IsAmong (get_or parts k unit_row) t.rows) (sym (get_or-set_other ts i k u unit_table apart)) there
            ]);
        fit = joint.fit;
        is = joint.is;
        few = joint.few;
      }

  pub reduced_set : EachApart ts → IsReduced level ts (set ts i u)
  reduced_set apart = record {
    one_each = length-set ts i u;
    tables = λ all. all_from_among IsTable (set ts i u) (λ t among. is_table all t among);
    apart = apart_fewer ts (set ts i u) fewer apart;
    rows = λ t among r in_rows. elim (set_among ts i u t less_i among) [
      | inl same ↦ (a, is_in, ((semi.rows.exactly r).0 (subst (λ (w : TableData). IsAmong r w.rows) same in_rows)).0)
      | inr there ↦ (t, there, in_rows)
    ];
    joint = λ r. (kept r, λ joint. record { parts = joint.parts; of_tables = back joint.parts ts (set ts i u) fewer joint.of_tables; fit = joint.fit; is = joint.is; few = joint.few });
  }
    where
      is_in : IsAmong a ts
      is_in = subst (λ (t : TableData). IsAmong t ts) at_i (among_at ts i unit_table less_i)

      is_u : AllByRecursion IsTable ts → IsTable u
      is_u all =
          let is : IsTable a = all_among IsTable ts a all is_in in
          let same : u ≡ record { scope = a.scope; rows = u.rows } = table_is u (record { scope = a.scope; rows = u.rows }) semi.scope refl in
          subst IsTable (sym same) (part_is_table a (HasPartner b.rows level) u.rows is semi.rows)

      is_table : AllByRecursion IsTable ts → (t : TableData) → IsAmong t (set ts i u) → IsTable t
      is_table all t among = elim (set_among ts i u t less_i among) [
        | inl same ↦ subst IsTable (sym same) (is_u all)
        | inr there ↦ all_among IsTable ts t all there
      ]

pub two_apart : (ts : List TableData) (i j : ℕ) (a b : TableData) → i < length ts → j < length ts → ¬ (i ≡ j) → a ≡ get_or ts i a → b ≡ get_or ts j b → EachApart ts → ShareNoMark a.rows b.rows
two_apart ts i j a b less_i less_j differ is_a is_b apart =
    subst (λ (t : TableData). ShareNoMark t.rows b.rows) (get_or_default ts i unit_table a less_i ∙ sym is_a) (subst (λ (t : TableData). ShareNoMark (get_or ts i unit_table).rows t.rows) (get_or_default ts j unit_table b less_j ∙ sym is_b) (apart.at i j less_i less_j differ))
