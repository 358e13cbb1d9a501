use Rattle.mcs_rows.specs.declared.answer.Answer as code
use Rattle.mcs_sets.specs.Sets.{Within}
use Rattle.mcs_system.specs.Imports.{rules_into}
use Rattle.std.proofs.Common.{[], ◌∷◌, ◌++◌, take, sym, ap, ◌∙◌}
use Rattle.std.proofs.lemmas.List.{flat_map_more, take_all, take_more}
use Rattle.std.specs.List.{flat_map}
use Rattle.mcs_base.proofs.Each.{all_read}
use Rattle.mcs_rows.specs.Making.{rows_with}
use Rattle.mcs_rows.proofs.local.add_answers.Goals as goal

pub applicable-applying-requires : goal.applicable-applying-requires
applicable-applying-requires c = c.requires.in_range

pub add_answer-requires-clause-in_range : goal.add_answer-requires-clause-in_range
add_answer-requires-clause-in_range c = c.requires.in_range

pub add_answer-requires-clause-applying : goal.add_answer-requires-clause-applying
add_answer-requires-clause-applying c = c.applicable-applying.ensures

pub add_answer-requires-clause-of_rules : goal.add_answer-requires-clause-of_rules
add_answer-requires-clause-of_rules c =
    all_read (λ (a : code.Answer). Within a.active (rules_into c.args.system.now c.args.i)) c.args.answers.now c.loop-answer.answer-index c.answer-item.result c.loop-answer-test.true c.answer-item.is c.requires.of_rules

pub add_answer-requires-clause-reach : goal.add_answer-requires-clause-reach
add_answer-requires-clause-reach c = c.requires.reach

pub loop-answer-preserved : goal.loop-answer-preserved
loop-answer-preserved c =
    let answers = c.args.answers.now in
    let i = c.loop-answer.answer-index in
    let a = c.answer-item.result in
    let old = c.args.rows.now.items in
    let each = rows_with c.args.system.now c.args.i c.args.reach.now.level c.args.reach.now.known.now c.args.state in
    c.in_ok-add_answer.ensures ∙ ap (λ xs. xs ++ each a) c.loop-answer.invariant
    ∙ flat_map_more each old (take i answers) a
    ∙ ap (λ some. old ++ flat_map each some) (ap (λ x. take i answers ++ x ∷ []) c.answer-item.is ∙ sym (take_more answers i a c.loop-answer-test.true))

pub returns : goal.returns
returns c =
    let each = rows_with c.args.system.now c.args.i c.args.reach.now.level c.args.reach.now.known.now c.args.state in
    c.loop-answer.invariant ∙ ap (λ some. c.args.rows.now.items ++ flat_map each some) (take_all c.loop-answer.answer-index c.args.answers.now c.loop-answer-test.false)
