use Rattle.std.proofs.Common.{◌↔◌, ℕ, List, ◌∙◌, ap, subst}
use Rattle.mcs_base.specs.Listings.{IsAmong}
use Rattle.mcs_sets.specs.Sets.{union}
use Rattle.mcs_system.specs.Plain.{System}
use Rattle.mcs_system.specs.Systems.{variables_of}
use Rattle.mcs_import.proofs.OrderLemmas.{import_order_exists}
use Rattle.mcs_import.proofs.StateLemmas.{lists}
use Rattle.mcs_table.specs.declared.row.Row.{Row}
use Rattle.mcs_rows.specs.Making.{IsChangedRow}
use Rattle.mcs_rows.proofs.MakingLemmas.{made_changed, changed_on}
use Rattle.mcs_rows.proofs.changed.changed_rows.Goals as goal

pub new-requires : goal.new-requires
new-requires c =
    changed_on c.system-system.result.now c.args.i c.args.pair c.args.answers.now c.deref.result.now c.union.result c.in_ok-all.all.items
    (c.union.ensures ∙ ap (λ v. union v c.inputs_of.result) c.vars_of.ensures ∙ ap (union (variables_of c.system-system.result.now c.args.i)) c.inputs_of.ensures) c.in_ok-all.ensures

pub returns : goal.returns
returns c level few supplied answered =
    let (order, ordered) = import_order_exists c.args.plan.now in
    let (joined, of_joins, of_grows) = c.in_ok-states.ensures order ordered in
    let states = c.in_ok-states.states.items in
    let of_system : (r : Row) → IsAmong r c.in_ok-all.all.items ↔ ((s : ℕ) × IsAmong s c.deref.result.now × IsChangedRow c.args.plan.now c.args.i c.args.pair c.args.answers.now s r) =
    subst (λ (m : System). (r : Row) → IsAmong r c.in_ok-all.all.items ↔ ((s : ℕ) × IsAmong s c.deref.result.now × IsChangedRow m c.args.i c.args.pair c.args.answers.now s r)) c.system-system.ensures c.in_ok-all.ensures in
    let are : (r : Row) → IsAmong r c.in_ok-all.all.items ↔ ((s : ℕ) × IsAmong s states × IsChangedRow c.args.plan.now c.args.i c.args.pair c.args.answers.now s r) =
    subst (λ (xs : List ℕ). (r : Row) → IsAmong r c.in_ok-all.all.items ↔ ((s : ℕ) × IsAmong s xs × IsChangedRow c.args.plan.now c.args.i c.args.pair c.args.answers.now s r)) c.deref.ensures.value of_system in
    made_changed c.args.plan.now level c.args.i c.args.answers.now answered order ordered (lists c.args.supplies.now) (supplied order ordered) joined states of_joins of_grows c.args.pair c.requires.allowed few
    c.new.result c.in_ok-all.all.items are c.new.ensures.kept c.new.ensures.rows
