-- The rows of all contexts whose marks are those that a pair makes of their states: they fit together in the equilibria of the changed system.
use Rattle.std.proofs.Common.{◌≡◌, ◌<◌, ◌≤◌, ℕ, Bool, true, false, List, length, map, Some, slice_get, refl, sym, ap, ◌∙◌, subst, ◌↔◌, arith}
use Rattle.std.proofs.lemmas.Option.{slice_get_within}
use Rattle.std.specs.List.{AllByRecursion}
use Rattle.mcs_sets.specs.Sets.{has, common, union, minus, size, Within}
use Rattle.mcs_sets.specs.Orders.{StateBefore}
use Rattle.mcs_sets.proofs.SetLemmas.{same_set, sets}
use Rattle.mcs_sets.proofs.Lattice.{within_antisymmetric, size_within}
use Rattle.mcs_base.specs.Listings.{IsAmong, IsListing}
use Rattle.mcs_base.specs.Pairs.{removed_of, forced_of}
use Rattle.mcs_base.proofs.Among.{map_among, among_map, get_among}
use Rattle.mcs_base.proofs.Each.{all_from_among}
use Rattle.mcs_base.proofs.ListingLemmas.{IsListing-same}
use Rattle.mcs_base.proofs.Lists.{slice_get_below, length_zip}
use Rattle.mcs_base.proofs.SetParts.{same_from_minus}
use Rattle.mcs_base.proofs.Zipped.{zip_get}
use Rattle.mcs_system.specs.Plain.{Formula, System}
use Rattle.mcs_system.specs.Faults.{IsValid}
use Rattle.mcs_system.specs.Logic.{Accepts, with_heads}
use Rattle.mcs_system.specs.Systems.{all_rules, variables_of, applicable, heads_into, acting_at, IsAcceptedPart, IsProjectedEquilibrium}
use Rattle.mcs_system.specs.Imports.{rules_into, marks_at}
use Rattle.mcs_system.specs.Repairs.{allowed_marks, IsChoice, choice_marks}
use Rattle.mcs_system.specs.Rows.{local_of}
use Rattle.mcs_system.proofs.ContextSets.{rules_into_known}
use Rattle.mcs_system.proofs.MarkLemmas.{removed-marks_of, forced-marks_of, applicable_within}
use Rattle.mcs_laws.proofs.Choices.{choice_within, state_is_choice}
use Rattle.mcs_laws.proofs.Projections.{from_parts}
use Rattle.mcs_laws.proofs.Questions.{heads-own, marks_are_united}
use Rattle.mcs_import.proofs.OrderLemmas.{import_order_exists}
use Rattle.mcs_import.proofs.QuestionLemmas.{same_applicable}
use Rattle.mcs_table.specs.declared.row.Row.{Row}
use Rattle.mcs_table.specs.RowOrder.{same_row}
use Rattle.mcs_table.specs.Tables.{TableData, IsTable}
use Rattle.mcs_table.specs.Joins.{IsJointRow}
use Rattle.mcs_rows.specs.Local.{IsRowOf, AreLocalTables}
use Rattle.mcs_joint.specs.Apart.{EachApart}
use Rattle.mcs_joint.specs.Reduced.{IsReduced}
use Rattle.mcs_joint.specs.Changed.{applicable_into, acting_into, HasMarksOf, AreChangedTables}
use Rattle.mcs_joint.proofs.Joint.{row_at, AreParts, joint_choice, choice_joint}
use Rattle.mcs_joint.proofs.Repairing.{row_there}
use Rattle.mcs_joint.proofs.Repaired.{own_apart}

-- ---- the rules that a row's marks tell
-- the marks of a choice depend on the rules into each context
marks_same : (m : System) → IsValid m → (σ x y : ℕ) → Within x (all_rules m) → Within y (all_rules m) → ((i : ℕ) → i < length m.contexts → common x (rules_into m i) ≡ common y (rules_into m i)) → choice_marks m σ x ≡ choice_marks m σ y
marks_same m valid σ x y in_x in_y same = within_antisymmetric _ _
    (λ k h. let (i, less, there) = (marks_are_united m σ x k valid in_x).0 h in (marks_are_united m σ y k valid in_y).1 (i, less, ap (λ z. has (marks_at m i σ z) k) (sym (same i less)) ∙ there))
    (λ k h. let (i, less, there) = (marks_are_united m σ y k valid in_y).0 h in (marks_are_united m σ x k valid in_x).1 (i, less, ap (λ z. has (marks_at m i σ z) k) (same i less) ∙ there))

module _ (m : System) (pair : ℕ) where
  abbrev acting : ℕ → ℕ
  acting σ = acting_at m σ (minus (all_rules m) (removed_of pair)) (forced_of pair)

  -- the rules into context i that act
  acting_own : (i σ : ℕ) → common (acting σ) (rules_into m i) ≡ acting_into m i pair σ
  acting_own i σ = same_set _ _ (λ k. each k (has (applicable m σ) k) refl)
    where
      each : (k : ℕ) (v : Bool) → has (applicable m σ) k ≡ v → has (common (acting σ) (rules_into m i)) k ≡ has (acting_into m i pair σ) k
      each k true e = let w = applicable_within m σ k e in grind (arith, sets)
      each k false e = grind (arith, sets)

  -- what the state shows of the rules into i depends on what is local to i
  into_local : (i σ : ℕ) → applicable_into m i (common σ (local_of m i)) ≡ applicable_into m i σ
  into_local i σ = same_applicable m i (common σ (local_of m i)) σ (same_set _ _ (λ v. grind (arith, sets)))

  acting_local : (i σ : ℕ) → acting_into m i pair (common σ (local_of m i)) ≡ acting_into m i pair σ
  acting_local i σ = ap (λ a. union (minus a (removed_of pair)) (common (forced_of pair) (rules_into m i))) (into_local i σ)

  into_known : (i σ x : ℕ) → Within (minus (applicable_into m i σ) x) (all_rules m)
  into_known i σ x k h = applicable_within m σ k (grind (arith, sets))

  own_known : (i a x : ℕ) → Within (minus (common x (rules_into m i)) a) (all_rules m)
  own_known i a x k h = rules_into_known m i k (grind (arith, sets))

  -- the row of a choice has the marks of the pair where the rules that act are those of the pair
  has_marks : (i σ x : ℕ) → common x (rules_into m i) ≡ acting_into m i pair σ → HasMarksOf m i pair (row_at m σ x i)
  has_marks i σ x same = record {
    removed = removed-marks_of m _ _ (into_known i σ (common x (rules_into m i))) ∙ (ap (minus (applicable_into m i σ)) (same ∙ sym (acting_local i σ)) ∙ ap (λ a. minus a (acting_into m i pair (common σ (local_of m i)))) (sym (into_local i σ)));
    forced = forced-marks_of m _ _ (own_known i (applicable_into m i σ) x) ∙ (ap (λ y. minus y (applicable_into m i σ)) (same ∙ sym (acting_local i σ)) ∙ ap (minus (acting_into m i pair (common σ (local_of m i)))) (sym (into_local i σ)));
  }

  -- and only there
  marks_tell : (i σ x : ℕ) → HasMarksOf m i pair (row_at m σ x i) → common x (rules_into m i) ≡ acting_into m i pair σ
  marks_tell i σ x h = same_from_minus (applicable_into m i σ) (common x (rules_into m i)) (acting_into m i pair σ)
      (sym (removed-marks_of m _ _ (into_known i σ (common x (rules_into m i)))) ∙ (h.removed ∙ (ap (minus (applicable_into m i (common σ (local_of m i)))) (acting_local i σ) ∙ ap (λ a. minus a (acting_into m i pair σ)) (into_local i σ))))
      (sym (forced-marks_of m _ _ (own_known i (applicable_into m i σ) x)) ∙ (h.forced ∙ (ap (λ y. minus y (applicable_into m i (common σ (local_of m i)))) (acting_local i σ) ∙ ap (minus (acting_into m i pair σ)) (into_local i σ))))

  -- ---- what is accepted depends on the rules into the context
  accepts_own : (i x y τ : ℕ) → common x (rules_into m i) ≡ common y (rules_into m i) → IsAcceptedPart m i x τ → IsAcceptedPart m i y τ
  accepts_own i x y τ same h =
      let (c, is, accepts) = h.accepted in
      let heads : heads_into m i x ≡ heads_into m i y = heads-own m i x ∙ (ap (heads_into m i) same ∙ sym (heads-own m i y)) in
      record { belief = h.belief; accepted = (c, is, subst (λ (hs : List Formula). Accepts (with_heads c.kb hs) h.belief) heads accepts); part = h.part }

  -- ---- the joint rows of the changed tables
  module _ (valid : IsValid m) (k : ℕ) (ts us : List TableData) (all : AllByRecursion IsTable ts) (local : AreLocalTables m k ts) (changed : AreChangedTables m pair ts us) where
    long : length us ≡ length m.contexts
    long = changed.one_each ∙ local.one_each

    abbrev table_at : (i : ℕ) (u : TableData) → slice_get us i ≡ Some u → (t : TableData) × (slice_get ts i ≡ Some t)
    table_at i u is = slice_get_below ts i (let less = slice_get_within us i u is in omega (arith, changed.one_each))

    of_row : (i : ℕ) (u : TableData) (p : Row) → slice_get us i ≡ Some u → IsAmong p u.rows → IsRowOf m k i p × HasMarksOf m i pair p
    of_row i u p is among =
        let (t, is_t) = table_at i u is in
        let h = ((changed.changed i t u is_t is).rows.exactly p).0 among in
        (((local.local i t is_t).rows.exactly p).0 h.0, h.1)

    pub changed_are_tables : AllByRecursion IsTable us
    changed_are_tables = all_from_among IsTable us (λ u among.
        let (i, is) = get_among u us among in
        let (t, is_t) = table_at i u is in
        (changed.changed i t u is_t is).table)

    pub changed_apart : EachApart us
    changed_apart = own_apart m k us (λ i u p is among. (of_row i u p is among).0)

    -- what stands at a place of a joint row of them tells that the rules that act are those of the pair
    module _ (level : ℕ) (r : Row) (j : IsJointRow level us r) (σ x : ℕ) (choice : IsChoice m σ x) (parts : AreParts m σ x j.parts) where
      pub rules_are : (i : ℕ) → i < length m.contexts → common x (rules_into m i) ≡ common (acting σ) (rules_into m i)
      rules_are i less =
          let zip = length_zip (λ (p : Row) (u : TableData). IsAmong p u.rows) j.parts us j.of_tables in
          let (p, is) = slice_get_below j.parts i (omega (arith, zip, long)) in
          let (u, is_u, among) = zip_get (λ (q : Row) (w : TableData). IsAmong q w.rows) j.parts us j.of_tables i p is in
          let own = of_row i u p is_u among in
          let same : p ≡ row_at m σ x i = same_row p (row_at m σ x i) own.0.mask (sym (parts i p is).0) (sym (parts i p is).1) in
          marks_tell i σ x (subst (HasMarksOf m i pair) same own.1) ∙ sym (acting_own i σ)

    module _ (known : Within pair (allowed_marks m)) where
      -- a joint row is an equilibrium, and has the marks of the rules that act in it
      pub joint_state : (level : ℕ) (r : Row) → IsJointRow level us r → IsProjectedEquilibrium m (minus (all_rules m) (removed_of pair)) (forced_of pair) r.state.values × (r.marks ≡ choice_marks m r.state.values (acting r.state.values))
      joint_state level r j =
          let (order, is_order) = import_order_exists m in
          let own = λ (i : ℕ) (u : TableData) (p : Row) (is : slice_get us i ≡ Some u) (among : IsAmong p u.rows). (of_row i u p is among).0 in
          let (σ, x, choice, parts, marks, values) = joint_choice m order is_order k us changed_are_tables long own level r j valid in
          let same = rules_are level r j σ x choice parts in
          let at = from_parts m (minus (all_rules m) (removed_of pair)) (forced_of pair) σ choice.of_variables (λ i less. accepts_own i x (acting σ) (common σ (variables_of m i)) (same i less) (choice.accepted i less)) in
          let acts = state_is_choice m pair σ known at in (
            subst (IsProjectedEquilibrium m (minus (all_rules m) (removed_of pair)) (forced_of pair)) (sym values) at,
            subst (λ τ. r.marks ≡ choice_marks m τ (acting τ)) (sym values) (marks ∙ marks_same m valid σ x (acting σ) choice.of_rules acts.of_rules same),
          )

      -- an equilibrium is a joint row with at most as many marks as the pair has
      pub state_joint : size pair ≤ k → (σ : ℕ) → IsProjectedEquilibrium m (minus (all_rules m) (removed_of pair)) (forced_of pair) σ → (r : Row) × IsJointRow (size pair) us r × (r.state.values ≡ σ)
      state_joint high σ at =
          let choice = state_is_choice m pair σ known at in
          let few = size_within (choice_marks m σ (acting σ)) pair (choice_within m pair σ) in
          let (r, j, marks, values) = choice_joint m us long valid (size pair) σ (acting σ) choice (omega (arith, few)) (λ i u is.
          let (t, is_t) = table_at i u is in
          let there = row_there m valid k ts all local σ (acting σ) choice (omega (arith, few, high)) i t is_t in
          ((changed.changed i t u is_t is).rows.exactly (row_at m σ (acting σ) i)).1 (there.1, has_marks i σ (acting σ) (acting_own i σ))) in
          (r, j, values)

      -- ---- what their join says
      module _ (high : size pair ≤ k) (ordered : List TableData) (reduced : IsReduced (size pair) us ordered) where
        pub states_listed : (rows : List Row) → ((r : Row) → IsAmong r rows ↔ IsJointRow (size pair) ordered r) → (xs : List ℕ) → IsListing (λ σ. IsAmong σ (map (λ (r : Row). r.state.values) rows)) StateBefore xs
            → IsListing (IsProjectedEquilibrium m (minus (all_rules m) (removed_of pair)) (forced_of pair)) StateBefore xs
        states_listed rows joint xs listed =
            let values = λ (r : Row). r.state.values in
            IsListing-same StateBefore (λ σ. IsAmong σ (map (λ (r : Row). r.state.values) rows)) (IsProjectedEquilibrium m (minus (all_rules m) (removed_of pair)) (forced_of pair)) xs (λ σ. (
              λ among. let (r, there, e) = map_among values σ rows among in subst (IsProjectedEquilibrium m (minus (all_rules m) (removed_of pair)) (forced_of pair)) (sym e) (joint_state (size pair) r ((reduced.joint r).1 ((joint r).0 there))).0,
              λ at. let (r, j, e) = state_joint high σ at in subst (λ τ. IsAmong τ (map values rows)) e (among_map values r rows ((joint r).1 ((reduced.joint r).0 j))),
            )) listed
