use Rattle.std.proofs.Common.{drop}
use Rattle.mcs_import.proofs.ShareLemmas.{IsPartly}
use Rattle.mcs_import.proofs.share.share_of.Given as goal

abbrev pub invariant-loop-j : goal.invariant-loop-j
invariant-loop-j l = IsPartly l.system l.order l.i l.supplied.items l.guessed (drop l.j-index l.order)
