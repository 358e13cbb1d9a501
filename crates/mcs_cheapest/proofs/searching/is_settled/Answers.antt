use Rattle.std.proofs.Common.{◌^◌, arith}
use Rattle.std.proofs.lemmas.Nat.{mul-lt}
use Rattle.mcs_cheapest.proofs.searching.is_settled.Goals as goal

-- a number of 32 bits times one of 64 is one of 96
pub overflow_mul-result : goal.overflow_mul-result
overflow_mul-result c = omega (arith, mul-lt c.args.marks c.in-Some-Some.weight (2 ^ 32) (2 ^ 64) (omega arith) (omega arith))
