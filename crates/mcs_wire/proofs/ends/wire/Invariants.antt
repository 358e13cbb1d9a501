use Rattle.mcs_wire.proofs.ends.wire.Given as goal

abbrev pub ghosts-begin : goal.ghosts-begin
ghosts-begin a = record { plan = a.plan.now; addresses = a.addresses }
