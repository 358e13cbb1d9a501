use Rattle.std.proofs.Common.{◌∙◌}
use Rattle.mcs_search.proofs.SearchLemmas.{all-satisfied, less-decided, search-decided, search-run}
use Rattle.mcs_search.proofs.searching.choose.Goals as goal

pub returns-in-None-first_free-clause-turn : goal.returns-in-None-first_free-clause-turn
returns-in-None-first_free-clause-turn c = all-satisfied c.args.state.now c.requires.search.state c.in-None-first_free.ensures c.requires.run

pub returns-clause-turn : goal.returns-clause-turn
returns-clause-turn c =
    let e = c.in_ok-decide.ensures in
    let r = c.in_ok-run.ensures in
    let decided = search-decided c.args.state.now c.decide.new.state _ c.requires.search c.requires.run e.same e.decided in (
      record { search = search-run c.decide.new.state c.run.new.state decided r.same r.grows; run = r.run },
      less-decided c.args.state.now c.decide.new.state c.run.new.state _ e.decided r.grows (r.same.same.positions ∙ e.same.positions),
    )
