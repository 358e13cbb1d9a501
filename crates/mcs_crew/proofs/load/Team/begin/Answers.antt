use Rattle.std.proofs.Common.{◌∙◌, refl}
use Rattle.mcs_crew.specs.Calls.{team_of}
use Rattle.mcs_crew.proofs.TeamSteps.{goes_on_more, goes_on_none, had_none_more}
use Rattle.mcs_crew.proofs.load.Team.begin.Goals as goal

pub loop-place-init : goal.loop-place-init
loop-place-init g c = record { goes_on = goes_on_none (team_of c.args.self.now); had = λ weight. refl; many = refl }

pub serve-requires-clause-word : goal.serve-requires-clause-word
serve-requires-clause-word g c = c.loop-place.invariant.goes_on.word ∙ c.requires.word

pub serve-requires-clause-team : goal.serve-requires-clause-team
serve-requires-clause-team g c = let (r, asked, team) = c.requires.team in (r, asked, c.loop-place.invariant.goes_on.team r asked team)

pub loop-place-preserved : goal.loop-place-preserved
loop-place-preserved g c = let i = c.loop-place.invariant in record {
  goes_on = goes_on_more (team_of c.args.self.now) (team_of c.loop-place.self) (team_of c.serve.new.self) i.goes_on c.serve.ensures.goes_on;
  had = had_none_more (team_of c.args.self.now) (team_of c.loop-place.self) (team_of c.serve.new.self) i.had c.serve.ensures.had;
  many = c.serve.ensures.many ∙ i.many;
}
