use Rattle.mcs_crew.proofs.PartLemmas.{stopped}
use Rattle.mcs_crew.proofs.parts.ask_more.Goals as goal

pub returns-in-Ok : goal.returns-in-Ok
returns-in-Ok g c before front a =
    c.with_more.ensures c.args.context before (g.O.Oracle.stands c.args.asked.oracle) front c.args.questions.now (rw c.in-Ok.is at a) c.ask_in_turn-more.ensures

pub returns-in-Err : goal.returns-in-Err
returns-in-Err g c before front a =
    let now = g.O.Oracle.stands c.args.asked.oracle in
    stopped c.args.context before now now front c.args.questions.now c.in-Err.halt (rw c.in-Err.is at a)
