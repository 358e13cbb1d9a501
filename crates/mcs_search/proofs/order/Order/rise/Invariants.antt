use Rattle.mcs_search.proofs.order.Order.rise.Given as goal

abbrev pub decreases-loop-at : goal.decreases-loop-at
decreases-loop-at l = l.at
