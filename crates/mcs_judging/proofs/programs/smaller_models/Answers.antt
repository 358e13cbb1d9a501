use Rattle.std.proofs.Common.{sym, ◌∙◌}
use Rattle.std.proofs.lemmas.Bool.{iff_false}
use Rattle.mcs_asked.specs.Questions.{program_rules}
use Rattle.mcs_judging.proofs.ProgramLemmas.{out_of_range, not_satisfied, satisfied}
use Rattle.mcs_judging.proofs.programs.smaller_models.Goals as goal

pub returns-then-not-is_in_range : goal.returns-then-not-is_in_range
returns-then-not-is_in_range c = λ minimal. out_of_range c.args.program.now.atoms.now (program_rules c.args.program.now) c.args.model minimal (iff_false c.is_in_range.ensures c.if-not-is_in_range.true)

pub returns-then-not-rules_hold : goal.returns-then-not-rules_hold
returns-then-not-rules_hold c = λ minimal.
    not_satisfied c.args.program.now.atoms.now (program_rules c.args.program.now) c.args.model minimal c.numbered-places.result c.numbered-places.ensures (sym c.rules_hold.ensures ∙ c.if-not-rules_hold.true)

pub returns : goal.returns
returns c = λ minimal.
    satisfied c.args.program.now.atoms.now (program_rules c.args.program.now) c.args.model minimal c.numbered-places.result c.in_ok-clauses.clauses c.numbered-places.ensures (c.is_in_range.ensures.0 c.if-not-is_in_range.false)
    (sym c.rules_hold.ensures ∙ c.if-not-rules_hold.false) c.in_ok-clauses.ensures
