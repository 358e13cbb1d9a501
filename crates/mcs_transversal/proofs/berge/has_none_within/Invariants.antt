use Rattle.std.proofs.Common.{take}
use Rattle.mcs_transversal.proofs.BergeLemmas.{NoneWithin}
use Rattle.mcs_transversal.proofs.berge.has_none_within.Given as goal

abbrev pub invariant-loop-s : goal.invariant-loop-s
invariant-loop-s l = NoneWithin l.edge l.grown (take l.s-index l.ts)
