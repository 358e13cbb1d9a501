use Rattle.mcs_crew.proofs.PartLemmas.{joined}
use Rattle.mcs_crew.proofs.parts.join_asked.Goals as goal

pub returns : goal.returns
returns g c context before fork front back is a b =
    let told = c.join_answers-answers.ensures in
    joined context before fork (g.O.Oracle.stands c.args.first.oracle) (g.O.Oracle.stands c.args.second.oracle) (g.O.Oracle.stands c.join_answers-answers.new.oracle) front back is
    c.args.first.answers c.args.second.answers c.join_answers-answers.result a b told.answers told.halt told.journal told.rest
