use Rattle.std.proofs.Common.{length, ◌-◌}
use Rattle.mcs_program.proofs.splitting.+add_views.Given as goal

abbrev pub decreases-add_views : goal.decreases-add_views
decreases-add_views l = length l.placed.now.program.now.beliefs.now - l.decided
