use Rattle.std.proofs.Common.{ℕ, List, [], ◌∙◌, ap, sym, subst}
use Rattle.std.specs.List.{AllByRecursion, AllZip, flat_map}
use Rattle.mcs_base.specs.Listings.{IsAmong}
use Rattle.mcs_sets.specs.Sets.{union, Within}
use Rattle.mcs_system.specs.Imports.{rules_into}
use Rattle.mcs_system.specs.Plain.{System}
use Rattle.mcs_system.specs.Rows.{inputs_of}
use Rattle.mcs_system.specs.Systems.{variables_of}
use Rattle.mcs_import.proofs.OrderLemmas.{import_order_exists}
use Rattle.mcs_import.proofs.StateLemmas.{lists}
use Rattle.mcs_table.specs.Fitting.{AreFittingStates}
use Rattle.mcs_table.specs.Tables.{Covers}
use Rattle.mcs_rows.specs.Fitting.{HasFittingParts}
use Rattle.mcs_rows.specs.Making.{rows_of}
use Rattle.mcs_rows.specs.Nearest.{AreSupported, AreOfRules}
use Rattle.mcs_rows.specs.declared.answer.Answer.{Answer}
use Rattle.mcs_rows.proofs.NearestLemmas.{made_of_answers, rules_supported}
use Rattle.mcs_rows.proofs.FittingLemmas.{rules_same}
use Rattle.mcs_rows.proofs.MakingLemmas.{questions_of_rules, covering_on, made_fitting}
use Rattle.mcs_table.specs.declared.row.Row.{Row}
use Rattle.mcs_rows.specs.Reach.{own_marks}
use Rattle.mcs_rows.proofs.NearLemmas.{AreNear, all_same}
use Rattle.mcs_rows.proofs.minimal.minimal_rows.Goals as goal

pub rows_in-requires-clause-of_rules : goal.rows_in-requires-clause-of_rules
rows_in-requires-clause-of_rules c =
    let m = c.args.plan.now in
    let i = c.args.i in
    let some = c.in_ok-fitting.fitting.items in
    let all = c.in_ok-supported.supported.items in
    let fitting : AllByRecursion (λ (a : Answer). Within a.active (rules_into m i)) some =
    rules_same c.vars_of.result c.args.others.now c.args.answers.now some (λ (x : ℕ). Within x (rules_into m i)) c.in_ok-fitting.ensures (questions_of_rules m c.args.level i c.args.answers.now c.requires.answered) in
    let are : AreSupported some all = subst (λ (xs : List Answer). AreSupported xs all) c.deref.ensures.value c.in_ok-supported.ensures in
    subst (λ (s : System). AllByRecursion (AreOfRules s i) c.deref-4.result.now) (sym c.system-system.ensures)
    (subst (AllByRecursion (AreOfRules m i)) (sym c.deref-4.ensures.value) (rules_supported m i c.args.level [] some all are fitting))

pub minimal_table-requires : goal.minimal_table-requires
minimal_table-requires c =
    covering_on c.args.plan.now c.args.i c.args.level c.in_ok-near.near.items c.in_ok-fitting.fitting.items c.in_ok-states-2.states.items c.union.result c.in_ok-all.all.items
    (c.union.ensures ∙ ap (λ v. union v c.inputs_of-2.result) c.vars_of-2.ensures ∙ ap (union (variables_of c.system-system.result.now c.args.i)) c.inputs_of-2.ensures ∙ ap (λ (s : System). union (variables_of s c.args.i) (inputs_of s c.args.i)) c.system-system.ensures) (made_of_answers c.args.plan.now c.system-system.result.now c.args.i c.args.level c.reach_of-reach.result.level c.in_ok-near.near.items c.reach_of-reach.result.known.now c.in_ok-states-2.states.items c.deref-3.result.now c.in_ok-fitting.fitting.items c.in_ok-supported.supported.items c.deref-4.result.now c.in_ok-all.all.items
    (subst (λ (xs : List Answer). AreSupported xs c.in_ok-supported.supported.items) c.deref.ensures.value c.in_ok-supported.ensures) c.system-system.ensures c.reach_of-reach.ensures.level (c.reach_of-reach.ensures.known ∙ c.deref-2.ensures.value) c.deref-3.ensures.value c.deref-4.ensures.value c.in_ok-all.ensures)

pub returns : goal.returns
returns c =
    let m = c.args.plan.now in
    let i = c.args.i in
    let (order, ordered) = import_order_exists m in
    let (joined, of_joins, of_grows) = c.in_ok-states.ensures order ordered in
    let states = c.in_ok-states.states.items in
    let fewer = c.in_ok-states-2.states.items in
    let some = c.in_ok-fitting.fitting.items in
    let near = c.in_ok-near.near.items in
    let fit : AreFittingStates (inputs_of m i) c.args.others.now states fewer = subst (λ (z : ℕ). AreFittingStates z c.args.others.now states fewer) (c.inputs_of.ensures ∙ ap (λ (s : System). inputs_of s i) c.system-system.ensures) c.in_ok-states-2.ensures in
    let fits : AllZip (HasFittingParts (variables_of m i) c.args.others.now) c.args.answers.now some = subst (λ (z : ℕ). AllZip (HasFittingParts z c.args.others.now) c.args.answers.now some) (c.vars_of.ensures ∙ ap (λ (s : System). variables_of s i) c.system-system.ensures) c.in_ok-fitting.ensures in
    let are : AreNear (own_marks m i) c.args.known.now near = subst (λ (s : System). AreNear (own_marks s i) c.args.known.now near) c.system-system.ensures c.in_ok-near.ensures in
    let of_rules : AllByRecursion (λ (a : Answer). Within a.active (rules_into m i)) some =
    rules_same c.vars_of.result c.args.others.now c.args.answers.now some (λ (x : ℕ). Within x (rules_into m i)) c.in_ok-fitting.ensures (questions_of_rules m c.args.level i c.args.answers.now c.requires.answered) in
    let covers : Covers (λ r. IsAmong r c.in_ok-all.all.items) (λ r. IsAmong r (flat_map (rows_of m i c.args.level c.args.known.now some) fewer)) =
    subst (λ (rows : List Row). Covers (λ r. IsAmong r c.in_ok-all.all.items) (λ r. IsAmong r rows)) (all_same m i c.args.level c.args.known.now near are some of_rules fewer) (made_of_answers c.args.plan.now c.system-system.result.now c.args.i c.args.level c.reach_of-reach.result.level c.in_ok-near.near.items c.reach_of-reach.result.known.now c.in_ok-states-2.states.items c.deref-3.result.now c.in_ok-fitting.fitting.items c.in_ok-supported.supported.items c.deref-4.result.now c.in_ok-all.all.items
    (subst (λ (xs : List Answer). AreSupported xs c.in_ok-supported.supported.items) c.deref.ensures.value c.in_ok-supported.ensures) c.system-system.ensures c.reach_of-reach.ensures.level (c.reach_of-reach.ensures.known ∙ c.deref-2.ensures.value) c.deref-3.ensures.value c.deref-4.ensures.value c.in_ok-all.ensures) in
    made_fitting m c.args.level i c.args.answers.now c.requires.answered order ordered (lists c.args.supplies.now) (c.requires.supplied order ordered) joined states of_joins of_grows
    c.args.known.now c.args.others.now fewer fit some fits c.minimal_table.result c.in_ok-all.all.items covers
    (c.minimal_table.ensures.scope ∙ c.union.ensures ∙ ap (λ v. union v c.inputs_of-2.result) c.vars_of-2.ensures ∙ ap (union (variables_of c.system-system.result.now i)) c.inputs_of-2.ensures ∙ ap (λ (s : System). union (variables_of s i) (inputs_of s i)) c.system-system.ensures)
    c.minimal_table.ensures.kept c.minimal_table.ensures.rows
