use Rattle.std.proofs.Common.{◌≡◌, ℕ, List, map, length}
use Rattle.std.specs.Arc.{arc_value}
use Rattle.std.specs.List.{range_with_len}
use Rattle.mcs_proof_text.specs.Answers.{Answer}
use Rattle.mcs_check.specs.Answers.{oracle_for}
use Rattle.mcs_check.specs.Judging.{AreJudged}
use Rattle.mcs_check.proofs.oracles.oracles_of.Given as goal

abbrev pub invariant-loop-own : goal.invariant-loop-own
invariant-loop-own l = record {
  many : length l.oracles.items ≡ length l.yielded;
  oracles : (n : ℕ) (as' : List Answer) → AreJudged (arc_value l.system) n as' l.fn.answers.items → l.oracles.items ≡ map (oracle_for (arc_value l.system) as') (range_with_len 0 (length l.yielded));
}
