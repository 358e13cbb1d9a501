use Rattle.std.proofs.Common.{◌≡◌, [], drop}
use Rattle.mcs_proof_lines.specs.Verdicts.{within_from}
use Rattle.mcs_proof_lines.proofs.verdicts.within.Given as goal

abbrev pub invariant-loop-number : goal.invariant-loop-number
invariant-loop-number l = within_from l.most l.order.items (drop l.number-index l.numbers) ≡ within_from l.most [] l.numbers
