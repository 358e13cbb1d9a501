use Rattle.mcs_draw.proofs.draw.Draw.split.Given as goal

abbrev pub ghosts-cut : goal.ghosts-cut
ghosts-cut a = record { part = a.part }
