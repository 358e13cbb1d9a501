use Rattle.std.proofs.Common.{arith}
use Rattle.std.proofs.lemmas.Nat.Bits.{bit_at-trailing_zeros}
use Rattle.std.proofs.lemmas.Nat.{xor_lt}
use Rattle.std.specs.Int.{w128}
use Rattle.mcs_sets.proofs.SetLemmas.{before_at_first_difference}
use Rattle.mcs_sets.proofs.small_set.state_before.Goals as goal

pub has-requires : goal.has-requires
has-requires c = (bit_at-trailing_zeros w128 _ (omega arith) (xor_lt 128 _ _ c.a.invariant c.b.invariant)).0

pub returns-then-differ-ne0 : goal.returns-then-differ-ne0
returns-then-differ-ne0 c = rw (c.has.ensures.value, ← c.a.view_is, ← c.b.view_is) (before_at_first_difference w128 _ _ (omega arith) (xor_lt 128 _ _ c.a.invariant c.b.invariant))
