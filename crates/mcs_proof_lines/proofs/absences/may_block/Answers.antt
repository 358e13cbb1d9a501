use Rattle.std.proofs.Common.{sym, ◌∙◌}
use Rattle.mcs_proof_lines.proofs.Justs.{just_within}
use Rattle.mcs_proof_lines.proofs.absences.may_block.Goals as goal

pub returns-then-may_be-clause-within : goal.returns-then-may_be-clause-within
returns-then-may_be-clause-within c = just_within c.args.justs.now c.args.number c.args.just c.requires.some c.requires.some_just (sym c.is_just.ensures ∙ c.if-is_just.true)
