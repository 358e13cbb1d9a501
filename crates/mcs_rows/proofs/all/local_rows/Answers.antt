use Rattle.std.proofs.Common.{[], ◌∙◌, ap}
use Rattle.std.specs.List.{flat_map}
use Rattle.mcs_sets.specs.Sets.{union}
use Rattle.mcs_system.specs.Plain.{System}
use Rattle.mcs_system.specs.Rows.{local_of}
use Rattle.mcs_system.specs.Systems.{variables_of}
use Rattle.mcs_import.proofs.OrderLemmas.{import_order_exists}
use Rattle.mcs_import.proofs.StateLemmas.{lists}
use Rattle.mcs_rows.specs.Making.{rows_of}
use Rattle.mcs_rows.proofs.MakingLemmas.{all_on, made_local, questions_of_rules}
use Rattle.mcs_rows.proofs.all.local_rows.Goals as goal

pub all_rows-requires-clause-of_rules : goal.all_rows-requires-clause-of_rules
all_rows-requires-clause-of_rules c = rw c.system-system.ensures (questions_of_rules c.args.plan.now c.args.level c.args.i c.args.answers.now c.requires.answered)

pub new-requires : goal.new-requires
new-requires c =
    all_on c.system-system.result.now c.args.i c.args.level [] c.args.answers.now c.deref.result.now c.union.result c.in_ok-all.all.items
    (c.union.ensures ∙ ap (λ v. union v c.inputs_of.result) c.vars_of.ensures ∙ ap (union (variables_of c.system-system.result.now c.args.i)) c.inputs_of.ensures) c.in_ok-all.ensures

pub returns : goal.returns
returns c =
    let m = c.args.plan.now in
    let (order, ordered) = import_order_exists m in
    let (joined, of_joins, of_grows) = c.in_ok-states.ensures order ordered in
    let states = c.in_ok-states.states.items in
    made_local m c.args.level c.args.i c.args.answers.now c.requires.answered order ordered (lists c.args.supplies.now) (c.requires.supplied order ordered) joined states of_joins of_grows
    c.new.result c.in_ok-all.all.items
    (c.in_ok-all.ensures ∙ ap (flat_map (rows_of c.system-system.result.now c.args.i c.args.level [] c.args.answers.now)) c.deref.ensures.value
    ∙ ap (λ (s : System). flat_map (rows_of s c.args.i c.args.level [] c.args.answers.now) states) c.system-system.ensures)
    (c.new.ensures.scope ∙ c.union.ensures ∙ ap (λ v. union v c.inputs_of.result) c.vars_of.ensures ∙ ap (union (variables_of c.system-system.result.now c.args.i)) c.inputs_of.ensures
    ∙ ap (λ (s : System). local_of s c.args.i) c.system-system.ensures)
    c.new.ensures.rows
