use Rattle.std.proofs.Common.{List, [], ◌∷◌, ◌++◌, ℕ, ◌<◌, sym, ap, subst, ◌∙◌}
use Rattle.mcs_syntax.specs.Parts.{due, tops, with_next, left_by, moves}
use Rattle.mcs_syntax.proofs.Stacks.{IsSettling, stopped, popped-top, settling-none, settling-more, settling-falls, settled-here, settled-empty}
use Rattle.mcs_syntax.proofs.step.settle.Goals as goal

pub loop-next-init : goal.loop-next-init
loop-next-init g c = (
  subst (λ (ks : List ℕ). IsSettling (g.N.Rules).grammar c.args.table.now c.args.stack.now.items ks c.args.events.now.items c.args.events.now.items) (sym c.next-next.ensures.above)
      (settling-none (g.N.Rules).grammar c.args.table.now c.args.stack.now.items c.args.events.now.items c.requires.ready),
  c.next-next.ensures.empty,
)

pub take_apart-requires : goal.take_apart-requires
take_apart-requires g c = record { top = popped-top (g.N.Rules).grammar c.args.table.now c.loop-next.stack.items c.in-Some.place (with_next c.loop-next.next c.loop-next.stack.items) (ap (λ o. with_next o c.loop-next.stack.items) c.in-Some.is) c.loop-next.invariant.0.ready }

pub loop-next-preserved : goal.loop-next-preserved
loop-next-preserved g c = (
  subst (λ (ks : List ℕ). IsSettling (g.N.Rules).grammar c.args.table.now c.args.stack.now.items ks c.args.events.now.items c.take_apart.new.events.items) (sym c.next-next-in-Some.ensures.above)
      (settling-more (g.N.Rules).grammar c.args.table.now c.args.stack.now.items c.args.events.now.items (with_next c.loop-next.next c.loop-next.stack.items) c.loop-next.stack.items c.in-Some.place c.loop-next.events.items (ap (λ o. with_next o c.loop-next.stack.items) c.in-Some.is) c.loop-next.invariant.0 (left_by c.in_ok-onward.onward c.take_apart.new.stack.items) c.take_apart.new.events.items (moves c.in_ok-onward.onward) c.in_ok-onward.ensures (sym c.moves.ensures ∙ c.if-not-moves.false)),
  c.next-next-in-Some.ensures.empty,
)

pub loop-next-smaller : goal.loop-next-smaller
loop-next-smaller g c =
    subst (λ (ks : List ℕ). due (g.N.Rules).grammar (tops c.args.table.now ks) < due (g.N.Rules).grammar (tops c.args.table.now (with_next c.loop-next.next c.loop-next.stack.items))) (sym c.next-next-in-Some.ensures.above)
    (settling-falls (g.N.Rules).grammar c.args.table.now c.args.stack.now.items c.args.events.now.items (with_next c.loop-next.next c.loop-next.stack.items) c.loop-next.stack.items c.in-Some.place c.loop-next.events.items (ap (λ o. with_next o c.loop-next.stack.items) c.in-Some.is) c.loop-next.invariant.0 (left_by c.in_ok-onward.onward c.take_apart.new.stack.items) c.take_apart.new.events.items (moves c.in_ok-onward.onward) c.in_ok-onward.ensures (sym c.moves.ensures ∙ c.if-not-moves.false))

pub returns-then-not-moves : goal.returns-then-not-moves
returns-then-not-moves g c =
    let off = sym c.moves.ensures ∙ c.if-not-moves.true in
    settled-here (g.N.Rules).grammar c.args.table.now c.args.stack.now.items c.args.events.now.items (with_next c.loop-next.next c.loop-next.stack.items) c.loop-next.stack.items c.in-Some.place c.loop-next.events.items (ap (λ o. with_next o c.loop-next.stack.items) c.in-Some.is) c.loop-next.invariant.0 (left_by c.in_ok-onward.onward c.take_apart.new.stack.items) c.take_apart.new.events.items (moves c.in_ok-onward.onward) c.in_ok-onward.ensures c.push.new.self.items off
    (c.in_ok-push.ensures.items ∙ ap (λ (ks : List ℕ). ks ++ c.in-Some.place ∷ []) (sym (stopped c.in_ok-onward.onward c.take_apart.new.stack.items off)))

pub returns : goal.returns
returns g c = settled-empty (g.N.Rules).grammar c.args.table.now c.args.stack.now.items c.args.events.now.items (with_next c.loop-next.next c.loop-next.stack.items) c.loop-next.stack.items c.loop-next.events.items
    (ap (λ o. with_next o c.loop-next.stack.items) c.in_default.is ∙ c.loop-next.invariant.1 c.in_default.is) (c.loop-next.invariant.1 c.in_default.is) c.loop-next.invariant.0
