use Rattle.std.proofs.Common.{refl}
use Rattle.mcs_syntax.proofs.Places.{seen}
use Rattle.mcs_syntax.proofs.Stacks.{apart-say, apart-nothing, apart-then, apart-not}
use Rattle.mcs_syntax.proofs.step.take_apart.Goals as goal

pub returns-in_ok-push-in-Say : goal.returns-in_ok-push-in-Say
returns-in_ok-push-in-Say g c = apart-say (g.N.Rules).grammar c.args.table.now c.args.place c.args.stack.now.items c.requires.top c.args.events.now.items c.in-Say.action c.args.stack.now.items c.push.new.self.items (seen c.args.table.now c.args.place _ _ c.part.ensures.is c.part.ensures.later c.in-Say.is).0 refl c.in_ok-push-in-Say.ensures.items

pub returns-in-Nothing : goal.returns-in-Nothing
returns-in-Nothing g c = apart-nothing (g.N.Rules).grammar c.args.table.now c.args.place c.args.stack.now.items c.requires.top c.args.events.now.items c.args.stack.now.items c.args.events.now.items (seen c.args.table.now c.args.place _ _ c.part.ensures.is c.part.ensures.later c.in-Nothing.is).0 refl refl

pub returns-in_ok-push-in-Then : goal.returns-in_ok-push-in-Then
returns-in_ok-push-in-Then g c =
    let s = (seen c.args.table.now c.args.place _ _ c.part.ensures.is c.part.ensures.later c.in-Then.is) in
    apart-then (g.N.Rules).grammar c.args.table.now c.args.place c.args.stack.now.items c.requires.top c.args.events.now.items c.in-Then.a c.in-Then.b c.push-in-Then.new.self.items _ c.args.events.now.items (s.1).1 (s.1).3 s.0 c.in_ok-push-in-Then.ensures.items refl refl

pub returns-in_default : goal.returns-in_default
returns-in_default g c = apart-not (g.N.Rules).grammar c.args.table.now c.args.place c.args.stack.now.items c.requires.top c.args.events.now.items c.part.result.now c.args.stack.now.items c.args.events.now.items c.part.ensures.is c.in_default.not-Say c.in_default.not-Nothing c.in_default.not-Then refl refl
