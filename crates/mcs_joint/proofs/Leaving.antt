-- Tables without the rows that hold one of some sets have the same joint rows that hold none, and so the same minimal marks that do.
use Rattle.std.proofs.Common.{◌≡◌, ℕ, true, List, [], ◌∷◌, sym, ap, ◌∙◌, subst, ◌↔◌}
use Rattle.std.specs.List.{AllByRecursion, AllZip}
use Rattle.mcs_sets.specs.Sets.{has, Within}
use Rattle.mcs_base.specs.Antichains.{HasOneWithin}
use Rattle.mcs_base.specs.Listings.{IsAmong}
use Rattle.mcs_base.specs.Minimal.{IsMinimal}
use Rattle.mcs_base.proofs.Each.{all_from_among}
use Rattle.mcs_base.proofs.Zipped.{zip_weaker}
use Rattle.mcs_table.specs.declared.row.Row.{Row}
use Rattle.mcs_table.specs.Tables.{TableData}
use Rattle.mcs_table.specs.Joins.{union_of}
use Rattle.mcs_table.specs.Elimination.{AreJointMarks}
use Rattle.mcs_table.specs.Without.{IsWithout}
use Rattle.mcs_table.proofs.OrderFreeLemmas.{some_in}
use Rattle.mcs_joint.specs.Apart.{EachApart}
use Rattle.mcs_joint.proofs.Covering.{apart_fewer}

-- a set within one that holds none holds none
pub none_inside : (sets : List ℕ) (t s : ℕ) → Within t s → ¬ HasOneWithin sets s → ¬ HasOneWithin sets t
none_inside sets t s within none held = none (record { inner = held.inner; among = held.among; within = λ k i. within k (held.within k i) })

module _ (sets : List ℕ) where
  parts_all : (all left : List TableData) → AllZip (IsWithout sets) all left → (ps : List Row) → AllZip (λ (p : Row) (t : TableData). IsAmong p t.rows) ps left → AllZip (λ (p : Row) (t : TableData). IsAmong p t.rows) ps all
  parts_all [] [] without ps zip = zip
  parts_all [] (u ∷ us) without ps zip = absurd without
  parts_all (t ∷ ts) [] without ps zip = absurd without
  parts_all (t ∷ ts) (u ∷ us) without [] zip = absurd zip
  parts_all (t ∷ ts) (u ∷ us) without (p ∷ ps) zip = (((without.0.rows.exactly p).0 zip.0).0, parts_all ts us without.1 ps zip.1)

  parts_left : (all left : List TableData) → AllZip (IsWithout sets) all left → (ps : List Row) → AllZip (λ (p : Row) (t : TableData). IsAmong p t.rows) ps all → AllByRecursion (λ (p : Row). ¬ HasOneWithin sets p.marks) ps
      → AllZip (λ (p : Row) (t : TableData). IsAmong p t.rows) ps left
  parts_left [] [] without ps zip none = zip
  parts_left [] (u ∷ us) without ps zip none = absurd without
  parts_left (t ∷ ts) [] without ps zip none = absurd without
  parts_left (t ∷ ts) (u ∷ us) without [] zip none = absurd zip
  parts_left (t ∷ ts) (u ∷ us) without (p ∷ ps) zip none = ((without.0.rows.exactly p).1 (zip.0, none.0), parts_left ts us without.1 ps zip.1 none.1)

  module _ (level : ℕ) (all left : List TableData) (without : AllZip (IsWithout sets) all left) where
    joint_all : (s : ℕ) → AreJointMarks level left s → AreJointMarks level all s
    joint_all s (r, j, e) = (r, record { parts = j.parts; of_tables = parts_all all left without j.parts j.of_tables; fit = j.fit; is = j.is; few = j.few }, e)

    joint_left : (s : ℕ) → ¬ HasOneWithin sets s → AreJointMarks level all s → AreJointMarks level left s
    joint_left s none (r, j, e) =
        let marks : s ≡ union_of (λ (w : Row). w.marks) j.parts = e ∙ ap (λ (w : Row). w.marks) j.is in
        let each : AllByRecursion (λ (p : Row). ¬ HasOneWithin sets p.marks) j.parts = all_from_among (λ (p : Row). ¬ HasOneWithin sets p.marks) j.parts (λ p among.
        none_inside sets p.marks s (λ k h. subst (λ n. has n k ≡ true) (sym marks) (some_in (λ (w : Row). w.marks) j.parts k p among h)) none) in
        (r, record { parts = j.parts; of_tables = parts_left all left without j.parts j.of_tables each; fit = j.fit; is = j.is; few = j.few }, e)

    -- the minimal marks that hold none are the same
    pub minimal_left : (s : ℕ) → ¬ HasOneWithin sets s → IsMinimal (AreJointMarks level left) s ↔ IsMinimal (AreJointMarks level all) s
    minimal_left s none = (
      λ h. record { one = joint_all s h.one; least = λ t marks within. h.least t (joint_left t (none_inside sets t s within none) marks) within },
      λ h. record { one = joint_left s none h.one; least = λ t marks within. h.least t (joint_all t marks) within },
    )

pub apart_left : (sets : List ℕ) (all left : List TableData) → AllZip (IsWithout sets) all left → EachApart all → EachApart left
apart_left sets all left without = apart_fewer all left (zip_weaker (IsWithout sets) (λ (t u : TableData). (p : Row) → IsAmong p u.rows → IsAmong p t.rows) (λ t u w p among. ((w.rows.exactly p).0 among).0) all left without)
