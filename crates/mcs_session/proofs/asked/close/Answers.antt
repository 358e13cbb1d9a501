use Rattle.mcs_session.proofs.AskedLemmas.{last_closed}
use Rattle.mcs_session.proofs.asked.close.Goals as goal

pub returns-in-Some : goal.returns-in-Some
returns-in-Some c = last_closed c.args.asked.now.items c.args.asked.now.len c.in-Some.last.now c.args.questions c.args.asked.now.ok.0 c.in-Some.ensures.value
