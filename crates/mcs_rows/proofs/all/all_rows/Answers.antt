use Rattle.std.proofs.Common.{List, ℕ, [], ◌++◌, ◌∙◌, ap, sym}
use Rattle.std.specs.List.{flat_map}
use Rattle.std.proofs.lemmas.List.{take_all}
use Rattle.mcs_table.specs.declared.row.Row.{Row}
use Rattle.mcs_rows.specs.Making.{rows_of}
use Rattle.mcs_rows.proofs.MakingLemmas.{rows_more}
use Rattle.mcs_rows.proofs.all.all_rows.Goals as goal

pub loop-state-preserved : goal.loop-state-preserved
loop-state-preserved c =
    let m = c.args.system.now in let i = c.args.i in let answers = c.args.answers.now in let s = c.state-item.result in let old = c.loop-state.all.items in
    c.in_ok-add_answers.ensures
    ∙ ap (λ (n : ℕ). old ++ rows_of m i n c.reach_of-reach.result.known.now answers s) c.reach_of-reach.ensures.level
    ∙ ap (λ (sets : List ℕ). old ++ rows_of m i c.args.level sets answers s) c.reach_of-reach.ensures.known
    ∙ ap (λ (rows : List Row). rows ++ rows_of m i c.args.level [] answers s) c.loop-state.invariant
    ∙ sym (rows_more m i c.args.level [] answers c.args.states.now c.loop-state.state-index s c.loop-state-test.true c.state-item.is)

pub returns : goal.returns
returns c = c.loop-state.invariant ∙ ap (flat_map (rows_of c.args.system.now c.args.i c.args.level [] c.args.answers.now)) (take_all c.loop-state.state-index c.args.states.now c.loop-state-test.false)
