use Rattle.mcs_evaluation_tests.proofs.tables.semi_joined.Goals as goal

pub semi_join-requires : goal.semi_join-requires
semi_join-requires c = c.are_apart.ensures.0 c.if-are_apart.true
