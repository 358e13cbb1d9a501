use Rattle.mcs_search.proofs.PartLemmas.{part-later}
use Rattle.mcs_engine.proofs.StoreLemmas.{later-ground}
use Rattle.mcs_search.proofs.part.search_part.Goals as goal

pub adopt_explored-ended-requires-clause-part : goal.adopt_explored-ended-requires-clause-part
adopt_explored-ended-requires-clause-part c =
    let p = c.in_ok-part.part.state in
    part-later c.args.state.now p c.go_back.new.state c.in_ok-part.part.numbers.items c.in_ok-part.ensures.taken (later-ground p c.explore-explored.new.state c.go_back.new.state c.explore-explored.ensures c.go_back.ensures)
