use Rattle.mcs_base.proofs.Searched.{added_new}
use Rattle.mcs_import.proofs.near.add_new.Goals as goal

pub returns-in_ok-push : goal.returns-in_ok-push
returns-in_ok-push c = added_new c.args.found.now.items c.args.reached.now c.args.set c.push.new.self.items c.in_ok-push.ensures.items c.is_listed.result c.is_listed.ensures c.if-not-is_listed.true
