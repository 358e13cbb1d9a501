use Rattle.mcs_search.proofs.SearchLemmas.{search-back, search-run}
use Rattle.mcs_search.proofs.searching.begin_anew.Goals as goal

pub returns-clause-run : goal.returns-clause-run
returns-clause-run c =
    let r = c.in_ok-found.ensures in
    record {
      search = search-run c.back.new.state c.run.new.state (search-back c.args.state.now c.back.new.state c.requires c.back.ensures.same c.back.ensures.back.levels) r.same r.grows;
      run = r.run;
    }
