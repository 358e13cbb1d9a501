use Rattle.std.proofs.Common.{◌≡◌}
use Rattle.mcs_states.specs.Evaluators.{unasked}
use Rattle.mcs_check.proofs.relisting.renewed.Given as goal

abbrev pub invariant-loop-oracle : goal.invariant-loop-oracle
invariant-loop-oracle l = l.again.items ≡ unasked l.yielded
