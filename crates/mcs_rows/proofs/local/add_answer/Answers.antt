use Rattle.std.proofs.Common.{◌++◌, List, sym, ap, ◌∙◌}
use Rattle.std.proofs.lemmas.List.{append-nil}
use Rattle.mcs_sets.specs.Sets.{minus}
use Rattle.mcs_table.specs.declared.row.Row.{Row}
use Rattle.mcs_rows.proofs.NearestLemmas.{out_of_reach, no_rows}
use Rattle.mcs_rows.proofs.local.add_answer.Goals as goal

pub returns-then-is_out : goal.returns-then-is_out
returns-then-is_out c =
    let m = c.args.system.now in let answer = c.args.answer.now in
    let none = no_rows m c.args.i c.args.reach.now.level c.args.reach.now.known.now c.args.state answer
    (out_of_reach m c.args.i c.args.state answer.active c.minus-removed.result c.minus-forced.result c.args.reach.now c.requires.reach
    (record { of_rules = c.requires.of_rules; removes = c.minus-removed.ensures ∙ ap (λ a. minus a answer.active) c.requires.applying; forces = c.minus-forced.ensures ∙ ap (minus answer.active) c.requires.applying })
    (λ n s reach for. c.is_out.ensures n s reach c.if-is_out.true for)) in
    sym (ap (λ (rows : List Row). c.args.rows.now.items ++ rows) none ∙ append-nil c.args.rows.now.items)
