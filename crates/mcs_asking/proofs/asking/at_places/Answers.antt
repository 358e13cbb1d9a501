use Rattle.std.proofs.Common.{◌≡◌, true, false, ◌<◌, ◌∙◌, ℕ, List, length, sym, ap, subst, arith}
use Rattle.std.specs.List.{AllByRecursion}
use Rattle.std.proofs.lemmas.List.Elements.{recursion_from_All}
use Rattle.mcs_sets.specs.Sets.{has, union}
use Rattle.mcs_sets.proofs.Lattice.{union_assoc, none-union, union-none}
use Rattle.mcs_system.specs.Views.{at_places, at_places_from}
use Rattle.mcs_asking.proofs.asking.at_places.Goals as goal

pub loop-place-init : goal.loop-place-init
loop-place-init c = rw (c.into_iter-place-iterator.ensures.into_iter_gives, c.enumerate-place-items.ensures.source, c.enumerate-place-items.ensures.count, c.empty-chosen.ensures) (record {
  all = rw c.members.ensures.list (none-union _);
  small = recursion_from_All (λ k. k < 64) c.members.result c.members.ensures.below;
  few = omega (arith, c.members.ensures.few);
})

pub loop-place-preserved-then-has : goal.loop-place-preserved-then-has
loop-place-preserved-then-has c =
    let (first, here, next, room) = c.in-Some.ensures.steps in
    let on : has c.args.places c.loop-place.place-iterator.count ≡ true = ap (has c.args.places) (sym here) ∙ sym c.has.ensures.value ∙ c.if-has.true in
    let small = subst (AllByRecursion (λ k. k < 64)) first c.loop-place.invariant.small in
    let all = subst (λ (ws : List ℕ). union c.loop-place.chosen (at_places_from c.loop-place.place-iterator.count ws c.args.places) ≡ at_places c.args.set c.args.places) first c.loop-place.invariant.all in
    rw (c.with-chosen.ensures, next) (record {
      all = union_assoc _ _ _ ∙ rw on at all;
      small = small.1;
      few = omega (arith, ap length first, c.loop-place.invariant.few);
    })

pub loop-place-preserved : goal.loop-place-preserved
loop-place-preserved c =
    let (first, here, next, room) = c.in-Some.ensures.steps in
    let off : has c.args.places c.loop-place.place-iterator.count ≡ false = ap (has c.args.places) (sym here) ∙ sym c.has.ensures.value ∙ c.if-has.false in
    let small = subst (AllByRecursion (λ k. k < 64)) first c.loop-place.invariant.small in
    let all = subst (λ (ws : List ℕ). union c.loop-place.chosen (at_places_from c.loop-place.place-iterator.count ws c.args.places) ≡ at_places c.args.set c.args.places) first c.loop-place.invariant.all in
    rw next (record {
      all = rw off at all;
      small = small.1;
      few = omega (arith, ap length first, c.loop-place.invariant.few);
    })

pub returns : goal.returns
returns c = sym (union-none c.loop-place.chosen) ∙ subst (λ (ws : List ℕ). union c.loop-place.chosen (at_places_from c.loop-place.place-iterator.count ws c.args.places) ≡ at_places c.args.set c.args.places) c.in-None.ensures.steps.0.0 c.loop-place.invariant.all
