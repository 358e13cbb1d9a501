use Rattle.mcs_meant.proofs.LiteralLemmas.{there_fits, handed_fits}
use Rattle.mcs_meant.proofs.gates.push_sign.Goals as goal

pub opposite-requires : goal.opposite-requires
opposite-requires c = handed_fits c.args.x (there_fits c.args.cnf.now c.args.x c.vars.ensures.kept c.requires.left)
