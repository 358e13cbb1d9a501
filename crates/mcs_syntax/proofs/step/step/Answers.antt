use Rattle.mcs_syntax.proofs.Stacks.{stepped}
use Rattle.mcs_syntax.proofs.step.step.Goals as goal

pub settle-requires : goal.settle-requires
settle-requires g c = record { ready = c.in_ok-go.ensures.2 }

pub returns : goal.returns
returns g c = stepped (g.N.Rules).grammar c.args.table.now c.settle.result c.args.kind c.args.stack.now.items c.go.new.stack.items c.settle.new.stack.items c.args.events.now.items c.go.new.events.items c.settle.new.events.items c.in_ok-go.ensures c.settle.ensures
