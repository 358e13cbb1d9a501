use Rattle.mcs_mesh.specs.Replays.{course}
use Rattle.mcs_mesh.proofs.ReplayLemmas.{begun_with, delivered_at, granted_at}
use Rattle.mcs_mesh.proofs.replay.step.Goals as goal

pub returns-in-Begin-clause-goes : goal.returns-in-Begin-clause-goes
returns-in-Begin-clause-goes g c = begun_with c.args.level c.in-Begin.i c.args.event c.args.nodes.now c.begin_at.new.nodes c.args.letters.now.items c.args.total.now c.begin_at.result c.in-Begin.is c.begin_at.ensures.goes

pub returns-in-Grant-clause-goes : goal.returns-in-Grant-clause-goes
returns-in-Grant-clause-goes g c = granted_at c.args.level c.in-Grant.i c.args.event (course c.args.nodes.now c.args.letters.now.items c.args.total.now) (course c.grant_at.new.nodes c.grant_at.new.letters.items c.grant_at.new.total) c.grant_at.result c.in-Grant.is c.grant_at.ensures.goes

pub returns-in-Deliver-clause-goes : goal.returns-in-Deliver-clause-goes
returns-in-Deliver-clause-goes g c = delivered_at c.args.level c.in-Deliver.n c.args.event c.args.nodes.now c.deliver.new.nodes c.args.letters.now.items c.deliver.new.letters.items c.args.total.now c.deliver.result c.in-Deliver.is c.deliver.ensures.goes
