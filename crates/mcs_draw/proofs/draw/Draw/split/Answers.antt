use Rattle.mcs_draw.proofs.draw.Draw.split.Goals as goal

pub returns-clause-refused : goal.returns-clause-refused
returns-clause-refused c = tt
