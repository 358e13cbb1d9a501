use Rattle.std.proofs.Common.{◌∙◌, refl, inr}
use Rattle.mcs_crew.specs.Calls.{team_of}
use Rattle.mcs_crew.proofs.TeamSteps.{goes_on_more, goes_on_none, had_then_none}
use Rattle.mcs_crew.proofs.load.Team.take_in.Goals as goal

pub returns-in_default-clause-goes_on : goal.returns-in_default-clause-goes_on
returns-in_default-clause-goes_on g c = goes_on_none (team_of c.args.self.now)

pub returns-in_default-clause-had : goal.returns-in_default-clause-had
returns-in_default-clause-had g c = inr (λ weight. refl)

pub serve-requires-clause-word : goal.serve-requires-clause-word
serve-requires-clause-word g c = c.hand_over.ensures.goes_on.word ∙ c.requires.word

pub serve-requires-clause-team : goal.serve-requires-clause-team
serve-requires-clause-team g c = let (r, asked, team, of_plan) = c.requires.team in (r, asked, c.hand_over.ensures.goes_on.team r asked team)

pub returns-clause-goes_on : goal.returns-clause-goes_on
returns-clause-goes_on g c = goes_on_more (team_of c.args.self.now) (team_of c.hand_over.new.self) (team_of c.serve.new.self) c.hand_over.ensures.goes_on c.serve.ensures.goes_on

pub returns-clause-had : goal.returns-clause-had
returns-clause-had g c = had_then_none c.args.letter (team_of c.args.self.now) (team_of c.hand_over.new.self) (team_of c.serve.new.self) c.hand_over.ensures.had c.serve.ensures.had
