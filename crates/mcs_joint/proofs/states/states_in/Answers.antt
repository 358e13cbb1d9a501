use Rattle.std.proofs.Common.{◌≡◌, ◌∙◌, ap, sym, subst, ℕ, List, ◌↔◌}
use Rattle.std.specs.List.{AllByRecursion}
use Rattle.mcs_sets.specs.Orders.{StateBefore}
use Rattle.mcs_base.specs.Listings.{IsAmong, IsListing}
use Rattle.mcs_table.specs.declared.row.Row.{Row}
use Rattle.mcs_table.specs.Tables.{IsTable}
use Rattle.mcs_sets.specs.Sets.{size}
use Rattle.mcs_system.specs.Faults.{IsValid}
use Rattle.mcs_table.specs.Joins.{IsJointRow}
use Rattle.mcs_joint.specs.Apart.{EachApart}
use Rattle.mcs_rows.proofs.LocalLemmas.{local_are_tables}
use Rattle.mcs_joint.specs.Reduced.{IsReduced}
use Rattle.mcs_joint.proofs.Changing.{changed_apart, changed_are_tables, states_listed}
use Rattle.mcs_joint.proofs.states.states_in.Goals as goal

pub reduced-requires : goal.reduced-requires
reduced-requires c =
    let m = c.args.plan.now in
    let (k, high, given) = c.requires.tables in
    let valid : IsValid m = subst IsValid c.system.ensures c.bridges-bridges.ensures.valid in
    changed_apart m c.args.pair valid k given.all c.args.tables.items (local_are_tables m valid k given.all given.local) given.local given.changed

pub united_states-requires-clause-tables : goal.united_states-requires-clause-tables
united_states-requires-clause-tables c =
    let m = c.args.plan.now in
    let (k, high, given) = c.requires.tables in
    let valid : IsValid m = subst IsValid c.system.ensures c.bridges-bridges.ensures.valid in
    subst (AllByRecursion IsTable) (sym c.deref.ensures.value) (c.in_ok-fewer.ensures.tables (changed_are_tables m c.args.pair valid k given.all c.args.tables.items (local_are_tables m valid k given.all given.local) given.local given.changed))

pub united_states-requires-clause-apart : goal.united_states-requires-clause-apart
united_states-requires-clause-apart c = subst EachApart (sym c.deref.ensures.value) c.in_ok-fewer.ensures.apart

pub returns : goal.returns
returns c =
    let m = c.args.plan.now in
    let own = c.args.tables.items in
    let fewer = c.in_ok-fewer.fewer.items in
    let (rows, same, values) = c.in_ok-states.ensures in
    let (k, high, given) = c.requires.tables in
    let valid : IsValid m = subst IsValid c.system.ensures c.bridges-bridges.ensures.valid in
    let level : c.count-level.result ≡ size c.args.pair = c.count-level.ensures.number ∙ ap size c.marks.ensures in
    let reduced : IsReduced (size c.args.pair) own fewer = subst (λ n. IsReduced n own fewer) level c.in_ok-fewer.ensures in
    let joint : (r : Row) → IsAmong r rows ↔ IsJointRow (size c.args.pair) fewer r = λ r. subst (λ n. IsAmong r rows ↔ IsJointRow n fewer r) level (subst (λ ts. IsAmong r rows ↔ IsJointRow c.count-level.result ts r) c.deref.ensures.value (same r)) in
    let listed = subst (λ (ys : List ℕ). IsListing (λ σ. IsAmong σ ys) StateBefore c.list_states.new.states.items) values c.list_states.ensures in
    states_listed m c.args.pair valid k given.all own (local_are_tables m valid k given.all given.local) given.local given.changed c.requires.allowed high fewer reduced rows joint c.list_states.new.states.items listed
