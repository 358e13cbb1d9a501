-- Rows that fit together, one of each context, are the parts of a choice; and the parts of a choice are such rows.
use Rattle.std.proofs.Common.{◌≡◌, ◌<◌, ◌≤◌, ℕ, true, List, map, length, Some, slice_get, refl, sym, ap, ◌∙◌, subst, arith}
use Rattle.std.proofs.lemmas.Bool.Decides.{nat_tests}
use Rattle.std.proofs.lemmas.Option.{slice_get_within}
use Rattle.std.specs.List.{AllByRecursion}
use Rattle.mcs_sets.specs.Sets.{has, common, size}
use Rattle.mcs_sets.proofs.SetLemmas.{has-such_that, has-union}
use Rattle.mcs_sets.proofs.Lattice.{within_antisymmetric, in_common, has-common_kept}
use Rattle.mcs_base.specs.Listings.{IsAmong}
use Rattle.mcs_base.specs.Partials.{IsPartial, Fits}
use Rattle.mcs_base.proofs.PartialLemmas.{fits-where}
use Rattle.mcs_base.proofs.Among.{among_get, get_among}
use Rattle.mcs_base.proofs.Each.{all_get}
use Rattle.std.proofs.lemmas.List.{length-map}
use Rattle.mcs_base.proofs.Lists.{slice_get_below, choose_below, map_slice_get, slice_get-map_some, length_zip}
use Rattle.mcs_base.proofs.Zipped.{zip_get, zip_from_get}
use Rattle.mcs_system.specs.Plain.{System}
use Rattle.mcs_system.specs.Systems.{variables, variables_of}
use Rattle.mcs_system.specs.Faults.{IsValid}
use Rattle.mcs_system.specs.Imports.{IsImportOrder, rules_into, marks_at}
use Rattle.mcs_system.specs.Repairs.{IsChoice, choice_marks}
use Rattle.mcs_system.specs.Rows.{IsRow, AgreeOnCommon, inputs_of, local_of}
use Rattle.mcs_system.proofs.VariableLemmas.{variable_in_range, has-variables_of}
use Rattle.mcs_laws.proofs.Gluing.{rows_make_choices}
use Rattle.mcs_laws.proofs.Questions.{marks_are_united}
use Rattle.mcs_import.proofs.OrderLemmas.{import_order_is_one}
use Rattle.mcs_table.specs.declared.row.Row.{Row}
use Rattle.mcs_table.specs.Tables.{TableData, IsTable}
use Rattle.mcs_table.specs.Joins.{union_of, united_rows, IsJointRow}
use Rattle.mcs_table.proofs.JoinLemmas.{row_of}
use Rattle.mcs_table.proofs.OrderFreeLemmas.{in_some, some_in}
use Rattle.mcs_rows.specs.Local.{IsRowOf}

-- the row of context i in the state with the rules of x
abbrev pub row_at : System → ℕ → ℕ → ℕ → Row
row_at m σ x i = record { state = record { mask = local_of m i; values = common σ (local_of m i) }; marks = marks_at m i σ (common x (rules_into m i)) }

-- the rows are what the contexts show of the state and the rules
abbrev pub AreParts : System → ℕ → ℕ → List Row → Type 0
AreParts m σ x parts = (i : ℕ) (p : Row) → slice_get parts i ≡ Some p → (common σ (local_of m i) ≡ p.state.values) × (marks_at m i σ (common x (rules_into m i)) ≡ p.marks)

abbrev state_and_marks : Row → ℕ × ℕ
state_and_marks p = (p.state.values, p.marks)

module _ (m : System) (σ x : ℕ) (choice : IsChoice m σ x) (parts : List Row) (long : length parts ≡ length m.contexts) (are : AreParts m σ x parts) where
  -- the marks of all of them are those of the choice
  pub marks_of_parts : IsValid m → union_of (λ (r : Row). r.marks) parts ≡ choice_marks m σ x
  marks_of_parts valid = within_antisymmetric _ _
      (λ k h.
      let (p, among, there) = in_some (λ (r : Row). r.marks) parts k h in
      let (i, is) = get_among p parts among in
      let less : i < length m.contexts = (let within = slice_get_within parts i p is in omega (arith, long)) in
      (marks_are_united m σ x k valid choice.of_rules).1 (i, less, ap (λ s. has s k) (are i p is).1 ∙ there))
      (λ k h.
      let (i, less, there) = (marks_are_united m σ x k valid choice.of_rules).0 h in
      let (p, is) = slice_get_below parts i (omega (arith, long)) in
      some_in (λ (r : Row). r.marks) parts k p (among_get p parts i is) (ap (λ s. has s k) (sym (are i p is).1) ∙ there))

  -- and their states are the state: each variable is local to its context
  pub values_of_parts : union_of (λ (r : Row). r.state.values) parts ≡ σ
  values_of_parts = within_antisymmetric _ _
      (λ v h.
      let (p, among, there) = in_some (λ (r : Row). r.state.values) parts v h in
      let (i, is) = get_among p parts among in
      (in_common σ (local_of m i) v (ap (λ s. has s v) (are i p is).0 ∙ there)).0)
      (λ v h.
      let known : v < length (variables m) = (let e = choice.of_variables v h in let e' = has-such_that (length (variables m)) (λ w. true) v in grind (arith, nat_tests)) in
      let (r, is_r) = slice_get_below (variables m) v known in
      let less = variable_in_range m v r is_r in
      let (p, is) = slice_get_below parts r.context (omega (arith, long)) in
      let own : has (variables_of m r.context) v ≡ true = has-variables_of m r.context v r is_r ∙ grind (arith, nat_tests) in
      let near : has (local_of m r.context) v ≡ true = has-union (variables_of m r.context) (inputs_of m r.context) v ∙ rw own refl in
      some_in (λ (q : Row). q.state.values) parts v p (among_get p parts r.context is) (ap (λ s. has s v) (sym (are r.context p is).0) ∙ (has-common_kept σ (local_of m r.context) v near ∙ h)))

-- tables of one context each, whose rows are local rows of the level k
module _ (m : System) (order : List ℕ) (is_order : IsImportOrder m order) (k : ℕ) (tables : List TableData) (all : AllByRecursion IsTable tables) (long : length tables ≡ length m.contexts)
    (own : (i : ℕ) (t : TableData) (p : Row) → slice_get tables i ≡ Some t → IsAmong p t.rows → IsRowOf m k i p) where
  -- what stands at a place of the parts
  module _ (level : ℕ) (r : Row) (j : IsJointRow level tables r) where
    pub part_at : (i : ℕ) (p : Row) → slice_get j.parts i ≡ Some p → (t : TableData) × (slice_get tables i ≡ Some t) × IsAmong p t.rows
    part_at i p is = zip_get (λ (q : Row) (t : TableData). IsAmong q t.rows) j.parts tables j.of_tables i p is

    row_at_place : (i : ℕ) (p : Row) → slice_get j.parts i ≡ Some p → IsRowOf m k i p × IsPartial p.state
    row_at_place i p is = let (t, is_t, among) = part_at i p is in (own i t p is_t among, (row_of t (all_get IsTable tables i t all is_t) p among).partial)

    each_row : (i : ℕ) (q : ℕ × ℕ) → slice_get (map state_and_marks j.parts) i ≡ Some q → IsRow m order k i q.0 q.1
    each_row i q is =
        let (p, is_p, e) = map_slice_get state_and_marks j.parts i q is in
        let (order', is_order', row) = (row_at_place i p is_p).0.local in
        subst (λ (z : ℕ × ℕ). IsRow m order k i z.0 z.1) e (subst (λ (o : List ℕ). IsRow m o k i p.state.values p.marks) (import_order_is_one m order' order is_order' is_order) row)

    agree : AgreeOnCommon m (map state_and_marks j.parts)
    agree i i' q q' is is' =
        let (p, is_p, e) = map_slice_get state_and_marks j.parts i q is in
        let (p', is_p', e') = map_slice_get state_and_marks j.parts i' q' is' in
        let one = row_at_place i p is_p in
        let other = row_at_place i' p' is_p' in
        let same = fits-where p.state p'.state one.1 other.1 (j.fit p p' (among_get p j.parts i is_p) (among_get p' j.parts i' is_p')) in
        ap (λ (z : ℕ × ℕ). common z.0 (local_of m i')) (sym e) ∙ (ap (common p.state.values) (sym other.0.mask) ∙ (same ∙ (ap (common p'.state.values) one.0.mask ∙ ap (λ (z : ℕ × ℕ). common z.0 (local_of m i)) e')))

    -- they are what the contexts show of a choice
    pub joint_parts : IsValid m → (σ : ℕ) × (x : ℕ) × IsChoice m σ x × AreParts m σ x j.parts
    joint_parts valid =
        let same = length_zip (λ (q : Row) (t : TableData). IsAmong q t.rows) j.parts tables j.of_tables in
        let (σ, x, choice, parts) = rows_make_choices m order k (map state_and_marks j.parts) valid (length-map j.parts state_and_marks ∙ (same ∙ long)) each_row agree in
        (σ, x, choice, λ i p is. parts i (state_and_marks p) (slice_get-map_some state_and_marks j.parts i p is))

    pub joint_choice : IsValid m → (σ : ℕ) × (x : ℕ) × IsChoice m σ x × AreParts m σ x j.parts × (r.marks ≡ choice_marks m σ x) × (r.state.values ≡ σ)
    joint_choice valid =
        let (σ, x, choice, parts) = joint_parts valid in
        let many = length_zip (λ (q : Row) (t : TableData). IsAmong q t.rows) j.parts tables j.of_tables ∙ long in (
          σ,
          x,
          choice,
          parts,
          ap (λ (w : Row). w.marks) j.is ∙ marks_of_parts m σ x choice j.parts many parts valid,
          ap (λ (w : Row). w.state.values) j.is ∙ values_of_parts m σ x choice j.parts many parts,
        )

-- what the contexts show of a state and of rules fits together
rows_fit : (m : System) (σ x i j : ℕ) → Fits (row_at m σ x i).state (row_at m σ x j).state
rows_fit m σ x i j v in_i in_j = has-common_kept σ (local_of m i) v in_i ∙ sym (has-common_kept σ (local_of m j) v in_j)

-- where the tables have what the contexts show of a choice with few marks, they have a joint row of it
pub choice_joint : (m : System) (tables : List TableData) → length tables ≡ length m.contexts → IsValid m → (level σ x : ℕ) → IsChoice m σ x → size (choice_marks m σ x) ≤ level
    → ((i : ℕ) (t : TableData) → slice_get tables i ≡ Some t → IsAmong (row_at m σ x i) t.rows)
    → (r : Row) × IsJointRow level tables r × (r.marks ≡ choice_marks m σ x) × (r.state.values ≡ σ)
choice_joint m tables long valid level σ x choice few there =
    let (parts, many, each) = choose_below (λ i (p : Row). p ≡ row_at m σ x i) (length m.contexts) (λ i less. (row_at m σ x i, refl)) in
    let are : AreParts m σ x parts = λ i p is. (ap (λ (w : Row). w.state.values) (sym (each i p is)), ap (λ (w : Row). w.marks) (sym (each i p is))) in
    let marks = marks_of_parts m σ x choice parts many are valid in (
      united_rows parts,
      record {
        parts = parts;
        of_tables = zip_from_get (λ (p : Row) (t : TableData). IsAmong p t.rows) parts tables (many ∙ sym long) (λ i p t is is_t. subst (λ (w : Row). IsAmong w t.rows) (sym (each i p is)) (there i t is_t));
        fit = λ p q in_p in_q.
            let (i, is) = get_among p parts in_p in
            let (j, is') = get_among q parts in_q in
            subst (λ (w : Row). Fits w.state q.state) (sym (each i p is)) (subst (λ (w : Row). Fits (row_at m σ x i).state w.state) (sym (each j q is')) (rows_fit m σ x i j));
        is = refl;
        few = subst (λ s. size s ≤ level) (sym marks) few;
      },
      marks,
      values_of_parts m σ x choice parts many are,
    )
