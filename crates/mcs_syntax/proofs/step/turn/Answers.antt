use Rattle.std.proofs.Common.{refl, sym, ap, ◌∙◌}
use Rattle.std.proofs.lemmas.Result.{IfOk-weaker}
use Rattle.mcs_syntax.specs.declared.step.Onward.{Onward}
use Rattle.mcs_syntax.specs.Parts.{is_plain, expr_at, moves, left_by, IsTakenApart, IsTurned}
use Rattle.mcs_syntax.proofs.Places.{seen}
use Rattle.mcs_syntax.proofs.Stacks.{is-plain, turned-take, turned-rule, turned-left, turned-right, turned-into, turned-again, passed-by, passed-all, turned-plain}
use Rattle.mcs_syntax.proofs.step.turn.Goals as goal

pub returns-in_ok-push-in-Take : goal.returns-in_ok-push-in-Take
returns-in_ok-push-in-Take g c = turned-take (g.N.Rules).grammar c.args.table.now c.args.place c.args.stack.now.items c.requires.top c.args.kind c.args.events.now.items g.met.N.Rules.readable c.in-Take.class c.args.stack.now.items c.push.new.self.items (seen c.args.table.now c.args.place _ _ c.part.ensures.is c.part.ensures.later c.in-Take.is).0 c.requires.leads refl c.in_ok-push-in-Take.ensures.items

pub returns-in-Rule : goal.returns-in-Rule
returns-in-Rule g c = turned-rule (g.N.Rules).grammar c.args.table.now c.args.place c.args.stack.now.items c.requires.top c.args.kind c.args.events.now.items g.met.N.Rules.readable c.in-Rule.rule c.place.result _ c.args.events.now.items (seen c.args.table.now c.args.place _ _ c.part.ensures.is c.part.ensures.later c.in-Rule.is).0 c.place.ensures.is c.place.ensures.inside refl refl

pub chooses-requires-clause-one : goal.chooses-requires-clause-one
chooses-requires-clause-one g c = ((seen c.args.table.now c.args.place _ _ c.part.ensures.is c.part.ensures.later c.in-Or.is).1).1

pub chooses-requires-clause-other : goal.chooses-requires-clause-other
chooses-requires-clause-other g c = ((seen c.args.table.now c.args.place _ _ c.part.ensures.is c.part.ensures.later c.in-Or.is).1).3

pub returns-then-chooses : goal.returns-then-chooses
returns-then-chooses g c = let s = (seen c.args.table.now c.args.place _ _ c.part.ensures.is c.part.ensures.later c.in-Or.is) in turned-left (g.N.Rules).grammar c.args.table.now c.args.place c.args.stack.now.items c.requires.top c.args.kind c.args.events.now.items g.met.N.Rules.readable c.in-Or.a c.in-Or.b s.0 _ c.args.events.now.items refl (sym c.chooses.ensures ∙ c.if-chooses.true) (s.1).1 refl

pub returns-else-chooses : goal.returns-else-chooses
returns-else-chooses g c = let s = (seen c.args.table.now c.args.place _ _ c.part.ensures.is c.part.ensures.later c.in-Or.is) in turned-right (g.N.Rules).grammar c.args.table.now c.args.place c.args.stack.now.items c.requires.top c.args.kind c.args.events.now.items g.met.N.Rules.readable c.in-Or.a c.in-Or.b s.0 _ c.args.events.now.items refl (sym c.chooses.ensures ∙ c.if-chooses.false) (s.1).3 refl

pub begins-requires-clause-inside : goal.begins-requires-clause-inside
begins-requires-clause-inside g c = ((seen c.args.table.now c.args.place _ _ c.part.ensures.is c.part.ensures.later c.in-Maybe.is).1).1

pub returns-then-not-begins : goal.returns-then-not-begins
returns-then-not-begins g c = passed-by (g.N.Rules).grammar c.args.table.now c.args.place c.args.stack.now.items c.requires.top c.args.kind c.args.events.now.items g.met.N.Rules.readable c.in-Maybe.a c.args.stack.now.items c.args.events.now.items refl (seen c.args.table.now c.args.place _ _ c.part.ensures.is c.part.ensures.later c.in-Maybe.is).0 (sym c.begins.ensures ∙ c.if-not-begins.true) refl

pub returns-else-not-begins : goal.returns-else-not-begins
returns-else-not-begins g c = let s = (seen c.args.table.now c.args.place _ _ c.part.ensures.is c.part.ensures.later c.in-Maybe.is) in turned-into (g.N.Rules).grammar c.args.table.now c.args.place c.args.stack.now.items c.requires.top c.args.kind c.args.events.now.items g.met.N.Rules.readable c.in-Maybe.a _ c.args.events.now.items refl s.0 (sym c.begins.ensures ∙ c.if-not-begins.false) (s.1).1 refl

pub begins-requires-in-Many-clause-inside : goal.begins-requires-in-Many-clause-inside
begins-requires-in-Many-clause-inside g c = ((seen c.args.table.now c.args.place _ _ c.part.ensures.is c.part.ensures.later c.in-Many.is).1).1

pub returns-then-not-begins-2 : goal.returns-then-not-begins-2
returns-then-not-begins-2 g c = passed-all (g.N.Rules).grammar c.args.table.now c.args.place c.args.stack.now.items c.requires.top c.args.kind c.args.events.now.items g.met.N.Rules.readable c.in-Many.a c.args.stack.now.items c.args.events.now.items refl (seen c.args.table.now c.args.place _ _ c.part.ensures.is c.part.ensures.later c.in-Many.is).0 (sym c.begins-in-Many.ensures ∙ c.if-not-begins-2.true) refl

pub returns-in_ok-push-in-Many : goal.returns-in_ok-push-in-Many
returns-in_ok-push-in-Many g c = let s = (seen c.args.table.now c.args.place _ _ c.part.ensures.is c.part.ensures.later c.in-Many.is) in turned-again (g.N.Rules).grammar c.args.table.now c.args.place c.args.stack.now.items c.requires.top c.args.kind c.args.events.now.items g.met.N.Rules.readable c.in-Many.a _ c.args.events.now.items refl s.0 c.push-in-Many.new.self.items (sym c.begins-in-Many.ensures ∙ c.if-not-begins-2.false) (s.1).1 c.in_ok-push-in-Many.ensures.items refl

pub returns-in_default : goal.returns-in_default
returns-in_default g c =
    let plain = ap is_plain c.part.ensures.is ∙ is-plain (expr_at c.args.table.now) c.part.result.now c.in_default.not-Take c.in_default.not-Rule c.in_default.not-Or c.in_default.not-Maybe c.in_default.not-Many in
    IfOk-weaker c.take_apart.result
    (λ (o : Onward). IsTakenApart (g.N.Rules).grammar c.args.table.now c.args.place (moves o) c.args.stack.now.items (left_by o c.take_apart.new.stack.items) c.args.events.now.items c.take_apart.new.events.items)
    (λ (o : Onward). IsTurned (g.N.Rules).grammar c.args.table.now c.args.kind c.args.place (moves o) c.args.stack.now.items (left_by o c.take_apart.new.stack.items) c.args.events.now.items c.take_apart.new.events.items)
    (λ o p. turned-plain (g.N.Rules).grammar c.args.table.now c.args.place c.args.stack.now.items c.requires.top c.args.kind c.args.events.now.items (left_by o c.take_apart.new.stack.items) c.take_apart.new.events.items (moves o) p plain)
    c.take_apart.ensures
