use Rattle.std.proofs.Common.{List, ℕ, ◌<◌, sym, ap, subst, ◌∙◌}
use Rattle.mcs_syntax.specs.Parts.{due, tops, with_next, left_by, moves, IsGone}
use Rattle.mcs_syntax.proofs.Stacks.{IsGoing, stopped, popped-top, going-none, going-leads, going-more, going-falls, gone-taken, gone-ended}
use Rattle.mcs_syntax.proofs.step.go.Goals as goal

pub loop-next-init : goal.loop-next-init
loop-next-init g c = (
  subst (λ (ks : List ℕ). IsGoing (g.N.Rules).grammar c.args.table.now c.args.kind c.args.stack.now.items ks c.args.events.now.items c.args.events.now.items) (sym c.next-next.ensures.above)
      (going-none (g.N.Rules).grammar c.args.table.now c.args.kind c.args.stack.now.items c.args.events.now.items c.requires.ready c.requires.leads),
  c.next-next.ensures.empty,
)

pub turn-requires-clause-top : goal.turn-requires-clause-top
turn-requires-clause-top g c = popped-top (g.N.Rules).grammar c.args.table.now c.loop-next.stack.items c.in-Some.place (with_next c.loop-next.next c.loop-next.stack.items) (ap (λ o. with_next o c.loop-next.stack.items) c.in-Some.is) c.loop-next.invariant.0.ready

pub turn-requires-clause-leads : goal.turn-requires-clause-leads
turn-requires-clause-leads g c = going-leads (g.N.Rules).grammar c.args.table.now c.args.kind c.args.stack.now.items c.args.events.now.items (with_next c.loop-next.next c.loop-next.stack.items) c.loop-next.stack.items c.in-Some.place c.loop-next.events.items (ap (λ o. with_next o c.loop-next.stack.items) c.in-Some.is) c.loop-next.invariant.0

pub loop-next-preserved : goal.loop-next-preserved
loop-next-preserved g c = (
  subst (λ (ks : List ℕ). IsGoing (g.N.Rules).grammar c.args.table.now c.args.kind c.args.stack.now.items ks c.args.events.now.items c.turn.new.events.items) (sym c.next-next-in-Some.ensures.above)
      (going-more (g.N.Rules).grammar c.args.table.now c.args.kind c.args.stack.now.items c.args.events.now.items (with_next c.loop-next.next c.loop-next.stack.items) c.loop-next.stack.items c.in-Some.place c.loop-next.events.items (ap (λ o. with_next o c.loop-next.stack.items) c.in-Some.is) c.loop-next.invariant.0 (left_by c.in_ok-onward.onward c.turn.new.stack.items) c.turn.new.events.items (moves c.in_ok-onward.onward) c.in_ok-onward.ensures (sym c.moves.ensures ∙ c.if-not-moves.false)),
  c.next-next-in-Some.ensures.empty,
)

pub loop-next-smaller : goal.loop-next-smaller
loop-next-smaller g c =
    subst (λ (ks : List ℕ). due (g.N.Rules).grammar (tops c.args.table.now ks) < due (g.N.Rules).grammar (tops c.args.table.now (with_next c.loop-next.next c.loop-next.stack.items))) (sym c.next-next-in-Some.ensures.above)
    (going-falls (g.N.Rules).grammar c.args.table.now c.args.kind c.args.stack.now.items c.args.events.now.items (with_next c.loop-next.next c.loop-next.stack.items) c.loop-next.stack.items c.in-Some.place c.loop-next.events.items (ap (λ o. with_next o c.loop-next.stack.items) c.in-Some.is) c.loop-next.invariant.0 (left_by c.in_ok-onward.onward c.turn.new.stack.items) c.turn.new.events.items (moves c.in_ok-onward.onward) c.in_ok-onward.ensures (sym c.moves.ensures ∙ c.if-not-moves.false))

pub returns-then-not-moves : goal.returns-then-not-moves
returns-then-not-moves g c =
    let off = sym c.moves.ensures ∙ c.if-not-moves.true in
    subst (λ (ks : List ℕ). IsGone (g.N.Rules).grammar c.args.table.now c.args.kind c.args.stack.now.items ks c.args.events.now.items c.turn.new.events.items) (stopped c.in_ok-onward.onward c.turn.new.stack.items off)
    (gone-taken (g.N.Rules).grammar c.args.table.now c.args.kind c.args.stack.now.items c.args.events.now.items (with_next c.loop-next.next c.loop-next.stack.items) c.loop-next.stack.items c.in-Some.place c.loop-next.events.items (ap (λ o. with_next o c.loop-next.stack.items) c.in-Some.is) c.loop-next.invariant.0 (left_by c.in_ok-onward.onward c.turn.new.stack.items) c.turn.new.events.items (moves c.in_ok-onward.onward) c.in_ok-onward.ensures off)

pub returns : goal.returns
returns g c = gone-ended (g.N.Rules).grammar c.args.table.now c.args.kind c.args.stack.now.items c.args.events.now.items (with_next c.loop-next.next c.loop-next.stack.items) c.loop-next.stack.items c.loop-next.events.items
    (ap (λ o. with_next o c.loop-next.stack.items) c.in_default.is ∙ c.loop-next.invariant.1 c.in_default.is) (c.loop-next.invariant.1 c.in_default.is) c.loop-next.invariant.0
