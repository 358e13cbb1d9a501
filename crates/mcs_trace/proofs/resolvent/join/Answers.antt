use Rattle.std.proofs.Common.{◌≡◌, ◌+◌, ◌<◌, ◌⊎◌, inl, inr, ℤ, length, get_or, pos, sym, ◌∙◌, subst, w64, to_z, of_z, to_z-of_z}
use Rattle.std.proofs.lemmas.Bool.{iff_false}
use Rattle.mcs_base.specs.Listings.{IsListing}
use Rattle.mcs_trace.specs.Clauses.{LiteralBefore}
use Rattle.mcs_trace.specs.Resolution.{IsLeft}
use Rattle.mcs_trace.proofs.OrderLemmas.{literal_at}
use Rattle.mcs_trace.proofs.JoinLemmas.{JoinSoFar, join-skip_first, join-skip_second, join-take_first, join-take_second, join-take_both, join-end, join-tie, pushed, negated}
use Rattle.mcs_trace.proofs.resolvent.join.Goals.{then-i-first, else-i-first+then-j-second}
use Rattle.mcs_trace.proofs.resolvent.join.Goals as goal

pub loop-i-preserved-then-is_at : goal.loop-i-preserved-then-is_at
loop-i-preserved-then-is_at c =
    let (here, e) = c.is_at.ensures.0 c.if-is_at.true in
    join-skip_first c.args.first.now c.args.second.now (to_z w64 (of_z w64 c.args.literal)) c.loop-i.i c.loop-i.j c.loop-i.out.items here e c.loop-i.invariant

pub loop-i-preserved-then-is_at-2 : goal.loop-i-preserved-then-is_at-2
loop-i-preserved-then-is_at-2 c =
    let (here, e) = c.is_at-else-is_at.ensures.0 c.if-is_at-2.true in
    join-skip_second c.args.first.now c.args.second.now (to_z w64 (of_z w64 c.args.literal)) c.loop-i.i c.loop-i.j c.loop-i.out.items here (e ∙ negated c.args.literal c.requires.literal) c.loop-i.invariant

pub loop-i-preserved-then-comes_first : goal.loop-i-preserved-then-comes_first
loop-i-preserved-then-comes_first c =
    let first = c.args.first.now in
    let second = c.args.second.now in
    let p : ℤ = to_z w64 (of_z w64 c.args.literal) in
    let x : ℤ = get_or first c.loop-i.i (pos 0) in
    let (here, less) = c.comes_first.ensures.0 c.if-comes_first.true in
    subst (JoinSoFar first second p (c.loop-i.i + 1) c.loop-i.j) (sym (pushed x c.loop-i.out.items c.push.new.self.items (literal_at first c.loop-i.i c.requires.first here) c.in_ok-push.ensures.items))
    (join-take_first first second p c.loop-i.i c.loop-i.j c.loop-i.out.items c.requires.first.1 c.requires.second.1 here
    (λ e. iff_false c.is_at.ensures c.if-is_at.false (here, e)) less c.loop-i.invariant)

pub loop-i-preserved-then-comes_first-2 : goal.loop-i-preserved-then-comes_first-2
loop-i-preserved-then-comes_first-2 c =
    let first = c.args.first.now in
    let second = c.args.second.now in
    let p : ℤ = to_z w64 (of_z w64 c.args.literal) in
    let y : ℤ = get_or second c.loop-i.j (pos 0) in
    let (here, less) = c.comes_first-else-comes_first.ensures.0 c.if-comes_first-2.true in
    subst (JoinSoFar first second p c.loop-i.i (c.loop-i.j + 1)) (sym (pushed y c.loop-i.out.items c.push-then-comes_first-2.new.self.items (literal_at second c.loop-i.j c.requires.second here) c.in_ok-push-2.ensures.items))
    (join-take_second first second p c.loop-i.i c.loop-i.j c.loop-i.out.items c.requires.first.1 c.requires.second.1 here
    (λ e. iff_false c.is_at-else-is_at.ensures c.if-is_at-2.false (here, e ∙ sym (negated c.args.literal c.requires.literal))) less c.loop-i.invariant)

pub loop-i-preserved : goal.loop-i-preserved
loop-i-preserved c =
    let first = c.args.first.now in
    let second = c.args.second.now in
    let p : ℤ = to_z w64 (of_z w64 c.args.literal) in
    let x : ℤ = get_or first c.loop-i.i (pos 0) in
    let y : ℤ = get_or second c.loop-i.j (pos 0) in
    let some : (c.loop-i.i < length first) ⊎ (c.loop-i.j < length second) = elim c.if-i-first.branch [ then-i-first w ↦ inl w.if-i-first.true | else-i-first+then-j-second w ↦ inr w.if-j-second.true ] in
    let (here, here', e) = join-tie c.loop-i.i (length first) c.loop-i.j (length second) x y some
    (iff_false c.comes_first.ensures c.if-comes_first.false) (iff_false c.comes_first-else-comes_first.ensures c.if-comes_first-2.false) in
    subst (JoinSoFar first second p (c.loop-i.i + 1) (c.loop-i.j + 1)) (sym (pushed y c.loop-i.out.items c.push-else-comes_first-2.new.self.items (literal_at second c.loop-i.j c.requires.second here') c.in_ok-push-3.ensures.items))
    (join-take_both first second p c.loop-i.i c.loop-i.j c.loop-i.out.items c.requires.first.1 c.requires.second.1 here here'
    (λ e'. iff_false c.is_at-else-is_at.ensures c.if-is_at-2.false (here', e' ∙ sym (negated c.args.literal c.requires.literal)))
    e c.loop-i.invariant)

pub returns : goal.returns
returns c =
    let p : ℤ = to_z w64 (of_z w64 c.args.literal) in
    let read : p ≡ c.args.literal = to_z-of_z c.ranges.literal in
    subst (λ (l : ℤ). IsListing (IsLeft c.args.first.now c.args.second.now l) LiteralBefore c.loop-i.out.items) read
    (join-end c.args.first.now c.args.second.now p c.loop-i.i c.loop-i.j c.loop-i.out.items c.if-i-first.false c.if-j-second.false c.loop-i.invariant)
