use Rattle.std.proofs.Common.{◌≡◌, ◌*◌, ◌≤◌, ◌∙◌, ap, sym, subst, length, map, ℕ, List, arith}
use Rattle.mcs_sets.specs.Orders.{PairBefore}
use Rattle.mcs_base.specs.Listings.{IsAmong, IsListing}
use Rattle.mcs_system.specs.Faults.{IsValid}
use Rattle.mcs_system.specs.Plain.{System}
use Rattle.mcs_costs.specs.Costs.{cost}
use Rattle.mcs_table.specs.declared.row.Row.{Row}
use Rattle.mcs_joint.proofs.Repaired.{fitting_apart}
use Rattle.mcs_elimination.specs.CheapestRows.{HasCheapestMarks}
use Rattle.mcs_elimination.specs.Eliminating.{CanEliminate}
use Rattle.mcs_elimination.proofs.CheapestMarks.{can_eliminate, cheapest_told}
use Rattle.mcs_elimination.proofs.cheapest.cheapest_in.Goals as goal

pub reduced-requires : goal.reduced-requires
reduced-requires c = let (k, dear, high, reaching, given) = c.requires.tables in fitting_apart c.args.plan.now k dear c.args.tables.items given

pub eliminate-requires : goal.eliminate-requires
eliminate-requires c =
    let m = c.args.plan.now in
    let most = c.count_marks-most.result in
    let (k, dear, high, reaching, given) = c.requires.tables in
    let valid : IsValid m = subst IsValid c.system-system.ensures c.count_marks-most.ensures.valid in
    let number : most ≡ 2 * length m.bridges = subst (λ (s : System). most ≡ 2 * length s.bridges) c.system-system.ensures c.count_marks-most.ensures.count in
    let room : 2 * length m.bridges ≤ most = omega (arith, number) in
    let own = can_eliminate m valid k dear c.args.tables.items given most c.in_ok-fewer.fewer.items c.in_ok-fewer.ensures room in
    subst (λ ts. CanEliminate c.system-system.result.now most ts) (sym c.deref.ensures.value) (subst (λ (s : System). CanEliminate s most c.in_ok-fewer.fewer.items) (sym c.system-system.ensures) own)

pub returns : goal.returns
returns c =
    let m = c.args.plan.now in
    let most = c.count_marks-most.result in
    let left = c.in_ok-left.left in
    let (k, dear, high, reaching, given) = c.requires.tables in
    let valid : IsValid m = subst IsValid c.system-system.ensures c.count_marks-most.ensures.valid in
    let number : most ≡ 2 * length m.bridges = subst (λ (s : System). most ≡ 2 * length s.bridges) c.system-system.ensures c.count_marks-most.ensures.count in
    let room : 2 * length m.bridges ≤ most = omega (arith, number) in
    let has = subst (λ ts. HasCheapestMarks (cost m) c.args.below most ts left) c.deref.ensures.value
    (subst (λ (s : System). HasCheapestMarks (cost s) c.args.below most c.deref.result.now left) c.system-system.ensures c.in_ok-left.ensures) in
    let items : c.in_ok-pairs.pairs.items ≡ map (λ (r : Row). r.marks) left.rows = c.in_ok-pairs.ensures ∙ ap (map (λ (r : Row). r.marks)) c.rows.ensures.value in
    cheapest_told m valid k dear c.args.tables.items given most c.in_ok-fewer.fewer.items c.in_ok-fewer.ensures room c.args.level c.args.below high c.requires.bound reaching left has
    c.list_pairs.new.pairs.items (subst (λ (xs : List ℕ). IsListing (λ p. IsAmong p xs) PairBefore c.list_pairs.new.pairs.items) items c.list_pairs.ensures)
