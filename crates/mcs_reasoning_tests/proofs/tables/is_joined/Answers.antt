use Rattle.mcs_reasoning_tests.proofs.tables.is_joined.Goals as goal

pub join-requires : goal.join-requires
join-requires c = c.are_apart.ensures.0 c.if-are_apart.true
