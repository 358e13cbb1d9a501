-- The minimal marks of joint rows are the minimal diagnoses with at most so many marks.
use Rattle.std.proofs.Common.{◌≡◌, ◌≤◌, ℕ, List, Some, slice_get, refl, sym, ◌∙◌, subst, ◌↔◌, arith}
use Rattle.std.specs.List.{AllByRecursion}
use Rattle.mcs_sets.specs.Sets.{size, minus, Within}
use Rattle.mcs_sets.proofs.Lattice.{within_antisymmetric, size_within}
use Rattle.mcs_base.specs.Listings.{IsAmong}
use Rattle.mcs_base.specs.Minimal.{IsMinimal}
use Rattle.mcs_base.specs.Pairs.{removed_of, forced_of}
use Rattle.mcs_system.specs.Plain.{System}
use Rattle.mcs_system.specs.Systems.{all_rules, acting_at}
use Rattle.mcs_system.specs.Faults.{IsValid}
use Rattle.mcs_system.specs.Repairs.{IsChoice, IsDiagnosis, choice_marks}
use Rattle.mcs_laws.proofs.Choices.{choice_is_diagnosis, choice_within, state_is_choice, minimal_from_choice}
use Rattle.mcs_laws.proofs.Questions.{choices_have_rows}
use Rattle.mcs_import.proofs.OrderLemmas.{import_order_exists, order_in_range}
use Rattle.mcs_table.specs.Tables.{TableData, IsTable}
use Rattle.mcs_table.specs.Elimination.{AreJointMarks}
use Rattle.std.proofs.lemmas.Option.{slice_get_within}
use Rattle.mcs_base.proofs.Sorted.{minimal_iff}
use Rattle.mcs_rows.specs.Local.{IsRowOf, AreLocalTables}
use Rattle.mcs_joint.proofs.Joint.{row_at, joint_choice, choice_joint}

-- the marks of a choice, at most so many
abbrev pub AreChoiceMarks : System → ℕ → ℕ → Type 0
AreChoiceMarks m level s = (σ : ℕ) × (x : ℕ) × IsChoice m σ x × (s ≡ choice_marks m σ x) × (size s ≤ level)

module _ (m : System) (valid : IsValid m) (k : ℕ) (tables : List TableData) (all : AllByRecursion IsTable tables) (local : AreLocalTables m k tables) where
  -- a choice with few marks has its row in each of the tables
  pub row_there : (σ x : ℕ) → IsChoice m σ x → size (choice_marks m σ x) ≤ k → (i : ℕ) (t : TableData) → slice_get tables i ≡ Some t → IsRowOf m k i (row_at m σ x i) × IsAmong (row_at m σ x i) t.rows
  row_there σ x choice few i t is =
      let (order, is_order) = import_order_exists m in
      let less = slice_get_within tables i t is in
      let row : IsRowOf m k i (row_at m σ x i) = record {
        mask = refl;
        local = (order, is_order, choices_have_rows m order k σ x i (order_in_range m order is_order) choice few (omega (arith, local.one_each)));
      } in
      (row, ((local.local i t is).rows.exactly (row_at m σ x i)).1 row)

  pub joint_marks_are : (level : ℕ) → level ≤ k → (s : ℕ) → AreJointMarks level tables s ↔ AreChoiceMarks m level s
  joint_marks_are level le s = (
    λ (r, j, e).
        let (order, is_order) = import_order_exists m in
        let (σ, x, choice, parts, marks, values) = joint_choice m order is_order k tables all local.one_each (λ i t p is among. ((local.local i t is).rows.exactly p).0 among) level r j valid in
        (σ, x, choice, e ∙ marks, subst (λ n. size n ≤ level) (sym e) j.few),
    λ (σ, x, choice, e, few).
        let few' : size (choice_marks m σ x) ≤ level = subst (λ n. size n ≤ level) e few in
        let (r, j, marks, values) = choice_joint m tables local.one_each valid level σ x choice few' (λ i t is. (row_there σ x choice (omega arith) i t is).1) in
        (r, j, e ∙ sym marks),
  )

-- a diagnosis has the marks of a choice within it
below_diagnosis : (m : System) (level s : ℕ) → size s ≤ level → IsDiagnosis m s → (t : ℕ) × AreChoiceMarks m level t × Within t s
below_diagnosis m level s few d =
    let x = acting_at m d.equilibrium (minus (all_rules m) (removed_of s)) (forced_of s) in
    let within = choice_within m s d.equilibrium in
    let le = size_within (choice_marks m d.equilibrium x) s within in
    (choice_marks m d.equilibrium x, (d.equilibrium, x, state_is_choice m s d.equilibrium d.allowed d.balanced, refl, omega arith), within)

diagnosis_of : (m : System) (level s : ℕ) → AreChoiceMarks m level s → IsDiagnosis m s
diagnosis_of m level s (σ, x, choice, e, few) = subst (IsDiagnosis m) (sym e) (choice_is_diagnosis m σ x choice)

-- the minimal ones are the minimal diagnoses
pub minimal_choices : (m : System) (level s : ℕ) → IsMinimal (AreChoiceMarks m level) s ↔ (IsMinimal (IsDiagnosis m) s × (size s ≤ level))
minimal_choices m level s = (
  λ least.
      let (σ, x, choice, e, few) = least.one in (
        record {
          one = diagnosis_of m level s least.one;
          least = λ t d within.
              let le = size_within t s within in
              let (u, marks, inside) = below_diagnosis m level t (omega arith) d in
              let same = least.least u marks (λ v h. within v (inside v h)) in
              within_antisymmetric t s within (subst (λ w. Within w t) same inside);
        },
        few,
      ),
  λ (least, few). record {
    one = (
      least.one.equilibrium,
      acting_at m least.one.equilibrium (minus (all_rules m) (removed_of s)) (forced_of s),
      state_is_choice m s least.one.equilibrium least.one.allowed least.one.balanced,
      sym (minimal_from_choice m s least.one.equilibrium least least.one.balanced),
      few,
    );
    least = λ t marks within. least.least t (diagnosis_of m level t marks) within;
  },
)

-- the minimal marks of the joint rows are the minimal diagnoses with at most so many marks
pub minimal_marks : (m : System) → IsValid m → (k : ℕ) (tables : List TableData) → AllByRecursion IsTable tables → AreLocalTables m k tables → (level : ℕ) → level ≤ k
    → (s : ℕ) → IsMinimal (AreJointMarks level tables) s ↔ (IsMinimal (IsDiagnosis m) s × (size s ≤ level))
minimal_marks m valid k tables all local level le s =
    let one = minimal_iff (AreJointMarks level tables) (AreChoiceMarks m level) (joint_marks_are m valid k tables all local level le) s in
    let other = minimal_choices m level s in
    (λ h. other.0 (one.0 h), λ h. one.1 (other.1 h))
