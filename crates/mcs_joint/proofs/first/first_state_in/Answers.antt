use Rattle.std.proofs.Common.{◌≡◌, ◌≤◌, ◌∙◌, ◌↔◌, ℕ, List, ap, subst}
use Rattle.std.specs.List.{AllByRecursion}
use Rattle.mcs_sets.specs.Sets.{minus, size, Within}
use Rattle.mcs_base.specs.Pairs.{removed_of, forced_of}
use Rattle.mcs_system.specs.Faults.{IsValid}
use Rattle.mcs_system.specs.Plain.{System}
use Rattle.mcs_system.specs.Repairs.{allowed_marks}
use Rattle.mcs_system.specs.Systems.{all_rules, IsProjectedEquilibrium}
use Rattle.mcs_table.specs.Tables.{TableData, IsTable}
use Rattle.mcs_rows.specs.Local.{AreLocalTables}
use Rattle.mcs_rows.proofs.LocalLemmas.{local_are_tables}
use Rattle.mcs_joint.specs.Changed.{AreChangedTables}
use Rattle.mcs_joint.specs.First.{IsJointState, TellsFirst}
use Rattle.mcs_joint.proofs.Changing.{changed_apart, changed_are_tables, joint_state, state_joint}
use Rattle.mcs_joint.proofs.Settling.{first_same}
use Rattle.mcs_joint.proofs.first.first_state_in.Goals as goal

-- the states of the joint rows of the changed tables are the equilibria
states_are : (m : System) (pair : ℕ) → IsValid m → (k : ℕ) (ts us : List TableData) → AllByRecursion IsTable ts → AreLocalTables m k ts → AreChangedTables m pair ts us → Within pair (allowed_marks m) → size pair ≤ k
    → (σ : ℕ) → IsJointState (size pair) us σ ↔ IsProjectedEquilibrium m (minus (all_rules m) (removed_of pair)) (forced_of pair) σ
states_are m pair valid k ts us all local changed known high σ = (
  λ (r, j, e). subst (IsProjectedEquilibrium m (minus (all_rules m) (removed_of pair)) (forced_of pair)) e (joint_state m pair valid k ts us all local changed known (size pair) r j).0,
  λ at. state_joint m pair valid k ts us all local changed known high σ at,
)

pub first_joint-requires-clause-tables : goal.first_joint-requires-clause-tables
first_joint-requires-clause-tables c =
    let m = c.args.plan.now in
    let (k, high, given) = c.requires.tables in
    let valid : IsValid m = subst IsValid c.system.ensures c.bridges-bridges.ensures.valid in
    changed_are_tables m c.args.pair valid k given.all c.args.tables.items (local_are_tables m valid k given.all given.local) given.local given.changed

pub first_joint-requires-clause-apart : goal.first_joint-requires-clause-apart
first_joint-requires-clause-apart c =
    let m = c.args.plan.now in
    let (k, high, given) = c.requires.tables in
    let valid : IsValid m = subst IsValid c.system.ensures c.bridges-bridges.ensures.valid in
    changed_apart m c.args.pair valid k given.all c.args.tables.items (local_are_tables m valid k given.all given.local) given.local given.changed

pub returns : goal.returns
returns c =
    let m = c.args.plan.now in
    let pair = c.args.pair in
    let own = c.args.tables.items in
    let first = c.in_ok-first.first in
    let (k, high, given) = c.requires.tables in
    let valid : IsValid m = subst IsValid c.system.ensures c.bridges-bridges.ensures.valid in
    let level : c.count-level.result ≡ size pair = c.count-level.ensures.number ∙ ap size c.marks.ensures in
    let told : TellsFirst (IsJointState (size pair) own) first = subst (λ n. TellsFirst (IsJointState n own) first) level c.in_ok-first.ensures in
    first_same (IsJointState (size pair) own) (IsProjectedEquilibrium m (minus (all_rules m) (removed_of pair)) (forced_of pair)) (states_are m pair valid k given.all own (local_are_tables m valid k given.all given.local) given.local given.changed c.requires.allowed high) first told
