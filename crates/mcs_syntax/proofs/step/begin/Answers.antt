use Rattle.mcs_syntax.proofs.Stacks.{begun-ready, begun-rule}
use Rattle.mcs_syntax.proofs.step.begin.Goals as goal

pub settle-requires : goal.settle-requires
settle-requires g c = record { ready = begun-ready (g.N.Rules).grammar c.args.table.now g.met.N.Rules.readable c.args.rule.now c.place.result c.push.new.self.items c.args.stack.now.items c.requires.none c.in_ok-push.ensures.items c.place.ensures.inside c.place.ensures.is }

pub returns : goal.returns
returns g c = begun-rule (g.N.Rules).grammar c.args.table.now c.settle.result c.args.rule.now c.place.result c.push.new.self.items c.args.stack.now.items c.settle.new.stack.items c.args.events.now.items c.settle.new.events.items c.requires.none c.in_ok-push.ensures.items c.place.ensures.is c.settle.ensures
