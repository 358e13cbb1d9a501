use Rattle.mcs_default.proofs.KnownLemmas.{closed_known}
use Rattle.mcs_default.proofs.known.known_closed.Goals as goal

pub returns : goal.returns
returns c items of_taken of_all k member = closed_known items c.args.taken c.args.all of_taken of_all k
    (rw (c.union-2.ensures, c.common-inside.ensures, c.union.ensures, c.minus-outside.ensures, c.common.ensures) at member)
