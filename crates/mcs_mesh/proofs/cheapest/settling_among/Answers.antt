use Rattle.mcs_mesh.proofs.cheapest.settling_among.Goals as goal

pub returns : goal.returns
returns c = c.settling.ensures c.args.system.now c.args.level c.requires.within c.in_ok-so_far.ensures c.in_ok-cheapest.ensures
