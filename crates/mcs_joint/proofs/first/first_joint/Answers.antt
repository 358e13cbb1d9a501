use Rattle.std.proofs.Common.{◌↔◌, List, subst}
use Rattle.mcs_base.specs.Listings.{IsAmong}
use Rattle.mcs_table.specs.declared.row.Row.{Row}
use Rattle.mcs_table.specs.Joins.{IsJointRow}
use Rattle.mcs_table.specs.Tables.{TableData}
use Rattle.mcs_joint.specs.First.{IsJointState}
use Rattle.mcs_joint.proofs.Settling.{first_same, states_reduced, states_united}
use Rattle.mcs_joint.proofs.first.first_joint.Goals as goal

pub returns-in-Some : goal.returns-in-Some
returns-in-Some c =
    let ts = c.args.tables.items in
    let fewer = c.in_ok-fewer.fewer.items in
    let states = c.in-Some.states.items in
    let (rows, exactly, values) = rw c.in-Some.is at c.in_ok-states.ensures in
    let joint : (r : Row) → IsAmong r rows ↔ IsJointRow c.args.level fewer r = λ r. subst (λ (us : List TableData). IsAmong r rows ↔ IsJointRow c.args.level us r) c.deref.ensures.value (exactly r) in
    let told = rw c.deref-in-Some.ensures.value at c.least_of.ensures in
    first_same (IsJointState c.args.level fewer) (IsJointState c.args.level ts) (states_reduced c.args.level ts fewer c.in_ok-fewer.ensures) c.least_of.result
    (first_same (λ σ. IsAmong σ states) (IsJointState c.args.level fewer) (states_united c.args.level fewer rows states joint values) c.least_of.result told)

pub returns : goal.returns
returns c = first_same (IsJointState c.args.level c.in_ok-fewer.fewer.items) (IsJointState c.args.level c.args.tables.items) (states_reduced c.args.level c.args.tables.items c.in_ok-fewer.fewer.items c.in_ok-fewer.ensures) c.in_ok-first.first c.in_ok-first.ensures
