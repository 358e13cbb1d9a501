use Rattle.mcs_crew.specs.Teams.{is_granted}
use Rattle.mcs_crew.proofs.serving.grant_need.Goals as goal

pub returns-clause-served : goal.returns-clause-served
returns-clause-served g c = is_granted c.in-Some.need c.draw-total.result c.in-Some.ensures c.grant.ensures c.draw-total.ensures.account c.draw-total.ensures.rises
