use Rattle.mcs_sets.specs.Sets.{minus, size}
use Rattle.mcs_default.proofs.search.+add_views.Given as goal

abbrev pub decreases-add_views : goal.decreases-add_views
decreases-add_views l = size (minus l.node.all.set l.node.taken.set)
