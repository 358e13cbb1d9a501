use Rattle.mcs_crew.proofs.PartLemmas.{more_asked}
use Rattle.mcs_crew.proofs.parts.with_more.Goals as goal

pub returns : goal.returns
returns g c context before then front back a b =
    let told = c.answers_with-answers.ensures in
    more_asked context before then (g.O.Oracle.stands c.args.more.oracle) front back c.args.answers c.args.more.answers c.answers_with-answers.result a b told.answers told.halt
