-- The cheapest marks of joint rows are the cheapest diagnoses.
use Rattle.std.proofs.Common.{◌≡◌, ℕ, ◌*◌, ◌≤◌, List, [], map, length, get_or, Option, Some, None, sym, ap, ◌∙◌, subst, inl, inr, arith}
use Rattle.std.proofs.lemmas.Bool.{cases_lt}
use Rattle.std.specs.List.{AllByRecursion}
use Rattle.mcs_sets.specs.Sets.{size, Within}
use Rattle.mcs_sets.specs.Orders.{PairBefore}
use Rattle.mcs_base.specs.Antichains.{HasOneWithin}
use Rattle.mcs_base.specs.Listings.{IsAmong, IsListing}
use Rattle.mcs_base.specs.Minimal.{IsMinimal}
use Rattle.mcs_base.proofs.Among.{among_permutation, among_zip, get_among, map_among}
use Rattle.mcs_base.proofs.Each.{all_among, all_from_among}
use Rattle.mcs_base.proofs.Lists.{length_zip, zip_get_or}
use Rattle.mcs_base.proofs.ListingLemmas.{IsListing-same}
use Rattle.mcs_base.proofs.Zipped.{zip_from_get_or}
use Rattle.mcs_system.specs.Faults.{IsValid}
use Rattle.mcs_system.specs.Plain.{System}
use Rattle.mcs_system.specs.Repairs.{all_marks, allowed_marks, choice_marks, IsDiagnosis}
use Rattle.mcs_system.proofs.MarkLemmas.{allowed_known}
use Rattle.mcs_costs.specs.Costs.{cost, IsCheapest}
use Rattle.mcs_costs.proofs.CheapestLemmas.{cheapest_minimal}
use Rattle.mcs_costs.proofs.CostLemmas.{cost_within}
use Rattle.mcs_costs.proofs.ExistLemmas.{cheapest_exists}
use Rattle.mcs_laws.proofs.Choices.{choice_is_diagnosis}
use Rattle.mcs_laws.proofs.Counting.{choice_is_small, minimal_is_small}
use Rattle.mcs_import.proofs.OrderLemmas.{import_order_exists}
use Rattle.mcs_table.specs.declared.row.Row.{Row}
use Rattle.mcs_table.specs.Tables.{TableData, IsTable, unit_row, unit_table}
use Rattle.mcs_table.specs.Elimination.{AreJointMarks}
use Rattle.mcs_table.specs.Without.{IsWithout}
use Rattle.mcs_table.proofs.FittingParts.{fitting_are_tables, fitting_rows}
use Rattle.mcs_rows.specs.Local.{AreFittingTables}
use Rattle.mcs_rows.proofs.LocalLemmas.{local_are_tables}
use Rattle.mcs_joint.specs.Reduced.{IsReduced}
use Rattle.mcs_joint.proofs.Covering.{MarksCover, covers-trans, fitting_cover, moved_cover}
use Rattle.mcs_joint.proofs.Joint.{choice_joint, joint_choice}
use Rattle.mcs_joint.proofs.Leaving.{minimal_left}
use Rattle.mcs_joint.proofs.Reducing.{reduced_covers}
use Rattle.mcs_joint.proofs.Repairing.{minimal_choices, row_there}
use Rattle.mcs_elimination.specs.CheapestRows.{HasCheapestMarks, IsBelow}
use Rattle.mcs_elimination.specs.Eliminating.{AreReaching, CanEliminate, IsCostBound}
use Rattle.mcs_elimination.specs.Lightest.{HasOneMarkEach}
use Rattle.mcs_elimination.proofs.Exchanging.{below_less}
use Rattle.mcs_elimination.proofs.OneMarkEach.{minimal_one_each}

module _ (m : System) (valid : IsValid m) (k : ℕ) (dear : List ℕ) (tables : List TableData) (given : AreFittingTables m k dear tables) where
  all_tables : AllByRecursion IsTable given.all
  all_tables = local_are_tables m valid k given.all given.local

  -- each row has marks of rules
  given_marks : (t : TableData) → IsAmong t tables → (r : Row) → IsAmong r t.rows → Within r.marks (all_marks m)
  given_marks t among r in_rows =
      let (o, in_order, sub) = among_zip (λ (x y : TableData). (p : Row) → IsAmong p y.rows → IsAmong p x.rows) given.ordered tables (fitting_rows [] given.ordered tables given.fitting) t among in
      let (a, in_all, without) = among_zip (IsWithout dear) given.all given.left given.without o ((among_permutation given.left given.ordered given.moved o).0 in_order) in
      let (i, at) = get_among a given.all in_all in
      let row = ((given.local.local i a at).rows.exactly r).0 ((without.rows.exactly r).0 (sub r in_rows)).0 in
      let (order, is_order, one) = row.local in
      allowed_known m r.marks one.allowed

  -- what is left has no joint rows but those of all local rows
  joint_all : (most s : ℕ) → AreJointMarks most given.left s → AreJointMarks most given.all s
  joint_all most s (r, j, e) =
      let many = length_zip (λ (p : Row) (t : TableData). IsAmong p t.rows) j.parts given.left j.of_tables in
      let long = length_zip (IsWithout dear) given.all given.left given.without in
      let there = zip_from_get_or (λ (p : Row) (t : TableData). IsAmong p t.rows) j.parts given.all unit_row unit_table (many ∙ sym long) (λ i less.
      (((zip_get_or (IsWithout dear) given.all given.left i unit_table unit_table given.without less).rows.exactly (get_or j.parts i unit_row)).0
      (zip_get_or (λ (p : Row) (t : TableData). IsAmong p t.rows) j.parts given.left i unit_row unit_table j.of_tables (omega (arith, less, many, long)))).0) in
      (r, record { parts = j.parts; of_tables = there; fit = j.fit; is = j.is; few = j.few }, e)

  all_is_diagnosis : (most s : ℕ) → AreJointMarks most given.all s → IsDiagnosis m s
  all_is_diagnosis most s (r, j, e) =
      let (order, is_order) = import_order_exists m in
      let (σ, x, choice, parts, marks, values) = joint_choice m order is_order k given.all all_tables given.local.one_each (λ i t p is among. ((given.local.local i t is).rows.exactly p).0 among) most r j valid in
      subst (IsDiagnosis m) (sym (e ∙ marks)) (choice_is_diagnosis m σ x choice)

  module _ (most : ℕ) (fewer : List TableData) (reduced : IsReduced most tables fewer) (room : 2 * length m.bridges ≤ most) where
    pub can_eliminate : CanEliminate m most fewer
    can_eliminate = record {
      valid = valid;
      are = reduced.tables (fitting_are_tables [] given.ordered tables given.fitting);
      apart = reduced.apart;
      marks = λ u among. all_from_among (λ (r : Row). Within r.marks (all_marks m)) u.rows (λ r in_rows. let (t, there, in_t) = reduced.rows u among r in_rows in given_marks t there r in_t);
      room = room;
    }

    covers : MarksCover most given.left fewer
    covers = covers-trans most given.left given.ordered fewer (moved_cover most given.left given.ordered given.moved)
        (covers-trans most given.ordered tables fewer (fitting_cover most given.ordered tables given.fitting) (reduced_covers most tables fewer reduced))

    joint_is_diagnosis : (s : ℕ) → AreJointMarks most fewer s → IsDiagnosis m s
    joint_is_diagnosis s joint = all_is_diagnosis most s (joint_all most s (covers.from s joint))

    module _ (level : ℕ) (below : Option ℕ) (high : level ≤ k) (bound : IsCostBound m level below) (reaching : AreReaching m below dear) where
      -- what is below the bound and has no rule's both marks has no more marks than the level has
      few_enough : (s : ℕ) → Within s (allowed_marks m) → HasOneMarkEach s → size s ≤ length m.bridges → IsBelow below (cost m s) → size s ≤ k
      few_enough s allowed one small is = at below bound is
        where
          at : (o : Option ℕ) → IsCostBound m level o → IsBelow o (cost m s) → size s ≤ k
          at None all h = omega (arith, small, all, high)
          at (Some b) above h = elim (cases_lt level (size s)) [
            | inr few ↦ omega (arith, few, high)
            | inl many ↦ absurd (let reached = above s allowed one many in omega (arith, reached, h))
          ]

      -- and none of the sets that reach it lies within it
      holds_none : (s : ℕ) → IsBelow below (cost m s) → ¬ HasOneWithin dear s
      holds_none s is held = all_among (λ n. ¬ IsBelow below (cost m n)) dear held.inner reaching held.among (below_less below (cost m held.inner) (cost m s) (cost_within m held.inner s held.within) is)

      -- a cheapest diagnosis below the bound has the marks of a joint row
      cheapest_is_joint : (p : ℕ) → IsCheapest m p → IsBelow below (cost m p) → AreJointMarks most fewer p
      cheapest_is_joint p c is =
          let minimal = cheapest_minimal m p valid c in
          let few = few_enough p c.one.allowed (minimal_one_each m p minimal) (minimal_is_small m p minimal) is in
          let (σ, x, choice, e, also_few) = ((minimal_choices m k p).1 (minimal, few)).one in
          let here : size (choice_marks m σ x) ≤ k = subst (λ n. size n ≤ k) e few in
          let small = choice_is_small m σ x choice.of_rules in
          let (r, j, marks, values) = choice_joint m given.all given.local.one_each valid most σ x choice (omega (arith, small, room)) (λ i t at. (row_there m valid k given.all all_tables given.local σ x choice here i t at).1) in
          let in_all : IsMinimal (AreJointMarks most given.all) p = record { one = (r, j, e ∙ sym marks); least = λ t joint within. minimal.least t (all_is_diagnosis most t joint) within } in
          let in_left = (minimal_left dear most given.all given.left given.without p (holds_none p is)).1 in_all in
          let (t, joint, within) = covers.below p in_left.one in
          subst (AreJointMarks most fewer) (minimal.least t (joint_is_diagnosis t joint) within) joint

      module _ (left : TableData) (cheapest : HasCheapestMarks (cost m) below most fewer left) where
        -- so it is left
        is_left : (p : ℕ) → IsCheapest m p → IsBelow below (cost m p) → IsAmong p (map (λ (r : Row). r.marks) left.rows)
        is_left p c is = cheapest.cheapest p (cheapest_is_joint p c is) is (λ other joint. c.least other (joint_is_diagnosis other joint))

        -- and what is left costs as much as one that is
        left_is_cheapest : (x : Row) → IsAmong x left.rows → IsCheapest m x.marks
        left_is_cheapest x among =
            let diagnosis = joint_is_diagnosis x.marks (cheapest.joint x among) in
            let (best, c) = cheapest_exists m x.marks diagnosis in
            let is = below_less below (cost m best) (cost m x.marks) (c.least x.marks diagnosis) (cheapest.cheap x among) in
            let (y, there, same) = map_among (λ (r : Row). r.marks) best left.rows (is_left best c is) in
            let equal : cost m x.marks ≡ cost m best = cheapest.alike x y among there ∙ ap (cost m) (sym same) in
            record { one = diagnosis; least = λ d other. let least = c.least d other in omega (arith, equal, least) }

        pub cheapest_told : (pairs : List ℕ) → IsListing (λ p. IsAmong p (map (λ (r : Row). r.marks) left.rows)) PairBefore pairs → IsListing (λ p. IsCheapest m p × IsBelow below (cost m p)) PairBefore pairs
        cheapest_told pairs listed = IsListing-same PairBefore _ _ pairs (λ p. (
          λ h. let (x, among, same) = map_among (λ (r : Row). r.marks) p left.rows h in
              subst (λ n. IsCheapest m n × IsBelow below (cost m n)) (sym same) (left_is_cheapest x among, cheapest.cheap x among),
          λ (c, is). is_left p c is,
        )) listed
