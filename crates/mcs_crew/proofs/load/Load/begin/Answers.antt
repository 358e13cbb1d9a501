use Rattle.std.proofs.Common.{refl}
use Rattle.mcs_crew.specs.Calls.{load_of, team_of}
use Rattle.mcs_crew.specs.Loads.{LoadData}
use Rattle.mcs_crew.proofs.LoadSteps.{worked_begun}
use Rattle.mcs_crew.proofs.load.Load.begin.Goals as goal

pub returns-clause-worked : goal.returns-clause-worked
returns-clause-worked g c =
    let was = c.args.self.now in
    let load : LoadData = record { team = team_of c.begin.new.self; inbox = was.inbox; left = was.left } in
    worked_begun (load_of was) load c.begin.ensures.goes_on c.begin.ensures.had refl refl
