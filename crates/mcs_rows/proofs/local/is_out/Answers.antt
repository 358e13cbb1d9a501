use Rattle.mcs_rows.proofs.local.is_out.Goals as goal

pub returns-then-meets : goal.returns-then-meets
returns-then-meets c = λ m s reach _ marks.
    let meets = c.meets.ensures.0 c.if-meets.true in
    reach.removed s meets.member meets.in_second (marks.removed_there meets.member meets.in_first)

pub returns-else-meets : goal.returns-else-meets
returns-else-meets c = λ m s reach is marks.
    let meets = c.meets-else-meets.ensures.0 is in
    reach.forced s meets.member meets.in_second (marks.forced_there meets.member meets.in_first)
