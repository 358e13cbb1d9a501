use Rattle.std.proofs.Common.{◌≡◌, ◌∷◌, true, false, ◌<◌, ◌∙◌, ℕ, drop, length, sym, ap, subst, arith}
use Rattle.std.specs.List.{AllByRecursion}
use Rattle.std.proofs.lemmas.List.Elements.{recursion_from_All}
use Rattle.mcs_sets.specs.Sets.{has, union, single, members}
use Rattle.mcs_sets.proofs.SetLemmas.{such_that-none}
use Rattle.mcs_session.proofs.PlaceLemmas.{next_of, place_more, place_same, all_places}
use Rattle.mcs_session.proofs.places.places_in.Goals as goal

pub loop-place-init : goal.loop-place-init
loop-place-init c = rw (c.into_iter-place-iterator.ensures.into_iter_gives, c.enumerate-place-items.ensures.source, c.enumerate-place-items.ensures.count, c.empty-places.ensures) (record {
  all = sym (such_that-none _);
  left = c.members.ensures.list;
  small = recursion_from_All (λ k. k < 64) c.members.result c.members.ensures.below;
  few = omega (arith, c.members.ensures.few);
})

pub loop-place-preserved-then-has : goal.loop-place-preserved-then-has
loop-place-preserved-then-has c =
    let (first, here, next, room) = c.in-Some.ensures.steps in
    let ahead : drop c.loop-place.place-iterator.count (members c.args.set) ≡ c.in-Some.member ∷ c.next.new.self.iter = sym c.loop-place.invariant.left ∙ first in
    let on : has c.args.part c.in-Some.member ≡ true = sym c.has.ensures.value ∙ c.if-has.true in
    let small = subst (AllByRecursion (λ k. k < 64)) first c.loop-place.invariant.small in
    rw (c.with-places.ensures, here, next) (record {
      all = ap (λ (s : ℕ). union s (single c.loop-place.place-iterator.count)) c.loop-place.invariant.all ∙ place_more c.args.set c.args.part c.loop-place.place-iterator.count c.in-Some.member c.next.new.self.iter ahead on;
      left = sym (next_of (members c.args.set) c.loop-place.place-iterator.count c.in-Some.member c.next.new.self.iter ahead).1;
      small = small.1;
      few = omega (arith, ap length first, c.loop-place.invariant.few);
    })

pub loop-place-preserved : goal.loop-place-preserved
loop-place-preserved c =
    let (first, here, next, room) = c.in-Some.ensures.steps in
    let ahead : drop c.loop-place.place-iterator.count (members c.args.set) ≡ c.in-Some.member ∷ c.next.new.self.iter = sym c.loop-place.invariant.left ∙ first in
    let off : has c.args.part c.in-Some.member ≡ false = sym c.has.ensures.value ∙ c.if-has.false in
    let small = subst (AllByRecursion (λ k. k < 64)) first c.loop-place.invariant.small in
    rw next (record {
      all = c.loop-place.invariant.all ∙ place_same c.args.set c.args.part c.loop-place.place-iterator.count c.in-Some.member c.next.new.self.iter ahead off;
      left = sym (next_of (members c.args.set) c.loop-place.place-iterator.count c.in-Some.member c.next.new.self.iter ahead).1;
      small = small.1;
      few = omega (arith, ap length first, c.loop-place.invariant.few);
    })

pub returns : goal.returns
returns c = c.loop-place.invariant.all ∙ all_places c.args.set c.args.part c.loop-place.place-iterator.count (sym c.loop-place.invariant.left ∙ c.in-None.ensures.steps.0.0)
