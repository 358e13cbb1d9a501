use Rattle.mcs_default.proofs.KnownLemmas.{open_known}
use Rattle.mcs_default.proofs.known.known_open.Goals as goal

pub returns : goal.returns
returns c items of_taken of_all k member = open_known items c.args.taken c.args.all of_taken of_all c.requires k
    (rw (c.union-3.ensures, c.union-2.ensures, c.minus-undecided.ensures, c.common-inside.ensures, c.common.ensures, c.minus-outside.ensures, c.union.ensures) at member)
