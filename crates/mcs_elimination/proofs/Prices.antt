-- Costs are prices over which tables can be eliminated.
use Rattle.std.proofs.Common.{◌≡◌, ℕ, ◌*◌, ◌≤◌, length, sym, ap, ◌∙◌, subst, arith}
use Rattle.mcs_sets.specs.Sets.{union, Within}
use Rattle.mcs_sets.proofs.Lattice.{none_within, union_within}
use Rattle.mcs_sets.proofs.SetLemmas.{size-below}
use Rattle.mcs_base.proofs.Each.{all_among, all_from_among}
use Rattle.mcs_system.specs.Faults.{IsValid}
use Rattle.mcs_system.specs.Plain.{System}
use Rattle.mcs_system.specs.Repairs.{all_marks}
use Rattle.mcs_system.proofs.MarkLemmas.{marks_small}
use Rattle.mcs_costs.specs.Costs.{cost}
use Rattle.mcs_costs.proofs.CheapestLemmas.{cost_within_same}
use Rattle.mcs_costs.proofs.CostLemmas.{cost-union_apart}
use Rattle.mcs_table.specs.declared.row.Row.{Row}
use Rattle.mcs_table.specs.Tables.{TableData, IsForgetting, IsJoin, unit_table}
use Rattle.mcs_elimination.specs.Eliminating.{HaveMarks}
use Rattle.mcs_elimination.proofs.Exchanging.{IsPrice}

pub costs_are_prices : (m : System) → IsValid m → (level : ℕ) → 2 * length m.bridges ≤ level → IsPrice (cost m) (all_marks m) level
costs_are_prices m valid level room = record {
  apart = cost-union_apart m;
  same = cost_within_same m valid;
  room = λ s known. let few = size-below s (2 * length m.bridges) (marks_small m s known) in omega (arith, few, room);
}

-- ---- marks of rules
pub unit_marks : (m : System) → HaveMarks m unit_table.rows
unit_marks m = (none_within (all_marks m), tt)

pub rest_marks : (m : System) (level keep : ℕ) (left a joined rest : TableData) → HaveMarks m left.rows → HaveMarks m a.rows → IsJoin left a level joined → IsForgetting joined keep rest → HaveMarks m rest.rows
rest_marks m level keep left a joined rest known known_next join forget = all_from_among (λ (r : Row). Within r.marks (all_marks m)) rest.rows (λ r among.
    let u = ((forget.rows.exactly r).0 among).one in
    let v = ((join.rows.exactly u.row).0 u.among).one in
    let marks : r.marks ≡ union v.first.marks v.second.marks = ap (λ (w : Row). w.marks) u.is ∙ ap (λ (w : Row). w.marks) v.is in
    subst (λ (n : ℕ). Within n (all_marks m)) (sym marks) (union_within v.first.marks v.second.marks (all_marks m)
    (all_among (λ (w : Row). Within w.marks (all_marks m)) left.rows v.first known v.in_first) (all_among (λ (w : Row). Within w.marks (all_marks m)) a.rows v.second known_next v.in_second)))
