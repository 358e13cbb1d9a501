-- Tables with the rows that give one variable a value: which joint rows they have.
use Rattle.std.proofs.Common.{◌≡◌, ℕ, Bool, true, false, cond, true≢false, List, [], ◌∷◌, get_or, sym, ap, ◌∙◌, subst, ◌↔◌, arith, refl}
use Rattle.std.proofs.lemmas.Bool.{false_from_ne_true}
use Rattle.std.specs.List.{AllByRecursion, AllZip}
use Rattle.mcs_sets.specs.Sets.{has, single}
use Rattle.mcs_sets.proofs.Lattice.{has-single_itself, only_member, has-single_if}
use Rattle.mcs_base.specs.Listings.{IsAmong}
use Rattle.mcs_base.specs.Partials.{PartialState, Fits}
use Rattle.mcs_base.proofs.Among.{among_at, place_among}
use Rattle.mcs_base.proofs.Each.{all_among, all_from_among}
use Rattle.mcs_base.proofs.Lists.{length_zip, zip_get_or}
use Rattle.mcs_base.proofs.Zipped.{zip_weaker}
use Rattle.mcs_table.specs.declared.row.Row.{Row}
use Rattle.mcs_table.specs.Tables.{TableData, IsTable, unit_row, unit_table}
use Rattle.mcs_table.specs.Joins.{union_of, IsJointRow}
use Rattle.mcs_table.proofs.JoinLemmas.{row_of}
use Rattle.mcs_table.proofs.OrderFreeLemmas.{in_some}
use Rattle.mcs_table.proofs.PartLemmas.{IsPartOf, joint_absent, part_same}
use Rattle.mcs_joint.specs.Apart.{EachApart}
use Rattle.mcs_joint.specs.First.{HaveJointRow, valued, IsNarrowed, IsVariableSettled}
use Rattle.mcs_joint.proofs.Covering.{apart_fewer}

-- ---- the rows that give one variable a value
narrowed_among : (s : PartialState) (t u : TableData) → IsNarrowed s t u → (p : Row) → IsAmong p u.rows → IsAmong p t.rows
narrowed_among s t u n p among = ((n.rows.exactly p).0 among).0

module _ (s : PartialState) where
  parts_from : (ts us : List TableData) → AllZip (IsNarrowed s) ts us → (ps : List Row) → AllZip IsPartOf ps us → AllZip IsPartOf ps ts × AllByRecursion (λ (p : Row). Fits p.state s) ps
  parts_from [] [] all [] zip = (tt, tt)
  parts_from [] [] all (p ∷ ps) zip = absurd zip
  parts_from [] (u ∷ us) all ps zip = absurd all
  parts_from (t ∷ ts) [] all ps zip = absurd all
  parts_from (t ∷ ts) (u ∷ us) all [] zip = absurd zip
  parts_from (t ∷ ts) (u ∷ us) all (p ∷ ps) zip =
      let here = (all.0.rows.exactly p).0 zip.0 in
      let rest = parts_from ts us all.1 ps zip.1 in
      ((here.0, rest.0), (here.1, rest.1))

  parts_to : (ts us : List TableData) → AllZip (IsNarrowed s) ts us → (ps : List Row) → AllZip IsPartOf ps ts → AllByRecursion (λ (p : Row). Fits p.state s) ps → AllZip IsPartOf ps us
  parts_to [] [] all [] zip fit = tt
  parts_to [] [] all (p ∷ ps) zip fit = absurd zip
  parts_to [] (u ∷ us) all ps zip fit = absurd all
  parts_to (t ∷ ts) [] all ps zip fit = absurd all
  parts_to (t ∷ ts) (u ∷ us) all [] zip fit = absurd zip
  parts_to (t ∷ ts) (u ∷ us) all (p ∷ ps) zip fit = ((all.0.rows.exactly p).1 (zip.0, fit.0), parts_to ts us all.1 ps zip.1 fit.1)

  pub narrowed_tables : (ts us : List TableData) → AllZip (IsNarrowed s) ts us → AllByRecursion IsTable us
  narrowed_tables [] [] all = tt
  narrowed_tables [] (u ∷ us) all = absurd all
  narrowed_tables (t ∷ ts) [] all = absurd all
  narrowed_tables (t ∷ ts) (u ∷ us) all = (all.0.table, narrowed_tables ts us all.1)

  pub narrowed_apart : (ts us : List TableData) → AllZip (IsNarrowed s) ts us → EachApart ts → EachApart us
  narrowed_apart ts us all = apart_fewer ts us (zip_weaker (IsNarrowed s) (λ (t u : TableData). (p : Row) → IsAmong p u.rows → IsAmong p t.rows) (narrowed_among s) ts us all)

module _ (level : ℕ) (ts us : List TableData) (are : AllByRecursion IsTable ts) (v : ℕ) (in_scope : has (union_of (λ (t : TableData). t.scope) ts) v ≡ true) (b : Bool) (all : AllZip (IsNarrowed (valued v b)) ts us) where
  -- some part of a joint row speaks of the variable
  speaks : (r : Row) (joint : IsJointRow level ts r) → (p : Row) × IsAmong p joint.parts × (has p.state.mask v ≡ true)
  speaks r joint =
      let (t, there, is) = in_some (λ (w : TableData). w.scope) ts v in_scope in
      let (k, less, at) = place_among ts t there in
      let long = length_zip IsPartOf joint.parts ts joint.of_tables in
      let p = get_or joint.parts k unit_row in
      let of : IsAmong p t.rows = subst (IsPartOf p) (at unit_table) (zip_get_or IsPartOf joint.parts ts k unit_row unit_table joint.of_tables (omega arith)) in
      (p, among_at joint.parts k unit_row (omega arith), ap (λ (m : ℕ). has m v) (row_of t (all_among IsTable ts t are there) p of).mask ∙ is)

  from_narrowed : (r : Row) → IsJointRow level us r → IsJointRow level ts r × (has r.state.values v ≡ b)
  from_narrowed r joint =
      let (of, fit) = parts_from (valued v b) ts us all joint.parts joint.of_tables in
      let before : IsJointRow level ts r = record { parts = joint.parts; of_tables = of; fit = joint.fit; is = joint.is; few = joint.few } in
      let (p, among, is) = speaks r before in
      (before, sym (part_same level ts are r before p among v is) ∙ (all_among (λ (q : Row). Fits q.state (valued v b)) joint.parts p fit among v is (has-single_itself v) ∙ has-single_if v b))

  to_narrowed : (r : Row) → IsJointRow level ts r → has r.state.values v ≡ b → IsJointRow level us r
  to_narrowed r joint is = record {
    parts = joint.parts;
    of_tables = parts_to (valued v b) ts us all joint.parts joint.of_tables (all_from_among (λ (p : Row). Fits p.state (valued v b)) joint.parts (λ p among. fits p among));
    fit = joint.fit;
    is = joint.is;
    few = joint.few;
  }
    where
      fits : (p : Row) → IsAmong p joint.parts → Fits p.state (valued v b)
      fits p among w in_mask in_single =
          let same : w ≡ v = only_member (single v) v refl w in_single in
          part_same level ts are r joint p among w in_mask ∙ (ap (has r.state.values) same ∙ (is ∙ (sym (has-single_if v b) ∙ ap (has (cond b (single v) 0)) (sym same))))

  pub narrowed_joint : (r : Row) → IsJointRow level us r ↔ (IsJointRow level ts r × (has r.state.values v ≡ b))
  narrowed_joint r = (from_narrowed r, λ h. to_narrowed r h.0 h.1)

-- ---- what settling a variable leaves
module _ (level v : ℕ) (ts : List TableData) (are : AllByRecursion IsTable ts) (apart : EachApart ts) where
  pub absent_settled : has (union_of (λ (t : TableData). t.scope) ts) v ≡ false → IsVariableSettled level v false ts ts
  absent_settled absent = record {
    tables = are;
    apart = apart;
    joint = λ r. (λ joint. (joint, joint_absent level ts are r joint v absent), λ h. h.0);
    some = λ no. absurd (true≢false (sym no));
    all = λ _ r joint. joint_absent level ts are r joint v absent;
  }

  module _ (in_scope : has (union_of (λ (t : TableData). t.scope) ts) v ≡ true) (holding : List TableData) (all : AllZip (IsNarrowed (valued v true)) ts holding) where
    pub true_settled : HaveJointRow level holding → IsVariableSettled level v true ts holding
    true_settled some = record {
      tables = narrowed_tables (valued v true) ts holding all;
      apart = narrowed_apart (valued v true) ts holding all apart;
      joint = narrowed_joint level ts holding are v in_scope true all;
      some = λ _. some;
      all = λ no. absurd (true≢false no);
    }

    pub false_settled : ¬ HaveJointRow level holding → (lacking : List TableData) → AllZip (IsNarrowed (valued v false)) ts lacking → IsVariableSettled level v false ts lacking
    false_settled none lacking all' = record {
      tables = narrowed_tables (valued v false) ts lacking all';
      apart = narrowed_apart (valued v false) ts lacking all' apart;
      joint = narrowed_joint level ts lacking are v in_scope false all';
      some = λ no. absurd (true≢false (sym no));
      all = λ _ r joint. false_from_ne_true _ (λ is. none (r, (narrowed_joint level ts holding are v in_scope true all r).1 (joint, is)));
    }
