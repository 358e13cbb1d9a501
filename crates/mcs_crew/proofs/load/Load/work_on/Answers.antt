use Rattle.std.proofs.Common.{◌-◌, ◌∙◌, arith}
use Rattle.mcs_crew.specs.Calls.{load_of, team_of}
use Rattle.mcs_crew.specs.Loads.{LoadData}
use Rattle.mcs_crew.proofs.LoadSteps.{worked_more}
use Rattle.mcs_crew.proofs.load.Load.work_on.Goals as goal

pub take_in-requires-clause-team : goal.take_in-requires-clause-team
take_in-requires-clause-team g c =
    let (r, asked, work) = c.requires.work in
    (r, asked, work.team, c.in-Some.ensures.taken.1 ∙ work.plan)

pub returns : goal.returns
returns g c =
    let load : LoadData = record { team = team_of c.take_in.new.self; inbox = c.try_take.new.self; left = c.args.self.now.left - 1 } in
    record { worked = worked_more (load_of c.args.self.now) load c.in-Some.letter c.take_in.ensures.goes_on c.in-Some.ensures.taken.0 (let some = c.if-self-eq0.false in omega (arith, some)) c.take_in.ensures.had }
