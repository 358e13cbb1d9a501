use Rattle.std.proofs.Common.{◌-◌, ◌∙◌, arith}
use Rattle.mcs_crew.specs.Calls.{load_of, team_of}
use Rattle.mcs_crew.specs.Loads.{LoadData}
use Rattle.mcs_crew.proofs.LoadSteps.{worked_more, worked_on}
use Rattle.mcs_crew.proofs.load.Load.work.Goals as goal

pub take_in-requires-clause-word : goal.take_in-requires-clause-word
take_in-requires-clause-word g c = c.loop-self.invariant.team.word ∙ c.requires.word

pub take_in-requires-clause-team : goal.take_in-requires-clause-team
take_in-requires-clause-team g c =
    let (r, asked, work) = c.requires.work in
    let now = c.loop-self.invariant.at_work r asked work in
    (r, asked, now.team, c.take-letter.ensures.plan ∙ now.plan)

pub loop-self-preserved : goal.loop-self-preserved
loop-self-preserved g c =
    let load : LoadData = record { team = team_of c.take_in.new.self; inbox = c.take-letter.new.self; left = c.loop-self.self.left - 1 } in
    worked_on (load_of c.args.self.now) (load_of c.loop-self.self) load c.loop-self.invariant
    (worked_more (load_of c.loop-self.self) load c.take-letter.result c.take_in.ensures.goes_on c.take-letter.ensures.taken (let more = c.loop-self-test.true in omega (arith, more)) c.take_in.ensures.had)
