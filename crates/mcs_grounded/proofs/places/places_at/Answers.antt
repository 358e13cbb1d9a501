use Rattle.std.proofs.Common.{◌≡◌, ◌∙◌, ◌<◌, ℕ, List, get_or, length, refl, ap, subst, arith}
use Rattle.std.specs.List.{AllByRecursion}
use Rattle.std.proofs.lemmas.List.{get_or_default}
use Rattle.std.proofs.lemmas.List.Elements.{recursion_from_All}
use Rattle.mcs_sets.specs.Sets.{union}
use Rattle.mcs_grounded.specs.Parts.{places_at}
use Rattle.mcs_grounded.proofs.places.places_at.Goals as goal

pub loop-number-init : goal.loop-number-init
loop-number-init c = rw (c.into_iter-number-iterator.ensures.into_iter_gives, c.empty-places.ensures) (record {
  all = refl;
  small = recursion_from_All (λ k. k < 64) c.args.numbers c.requires;
})

pub bounds-sets-number : goal.bounds-sets-number
bounds-sets-number c = omega (arith, (subst (AllByRecursion (λ k. k < 64)) c.in-Some.ensures.steps c.loop-number.invariant.small).0)

pub loop-number-preserved : goal.loop-number-preserved
loop-number-preserved c =
    let sets = c.args.sets.now in
    let small = subst (AllByRecursion (λ k. k < 64)) c.in-Some.ensures.steps c.loop-number.invariant.small in
    let less : c.in-Some.number < length sets = omega (arith, small.0, c.told-sets) in
    let more : c.union-places.result ≡ union c.loop-number.places (get_or sets c.in-Some.number 0) = c.union-places.ensures ∙ ap (union c.loop-number.places) (get_or_default sets c.in-Some.number c.index-sets-number.result 0 less) in
    rw more (record {
      all = subst (λ (ks : List ℕ). places_at sets c.loop-number.places ks ≡ places_at sets 0 c.args.numbers) c.in-Some.ensures.steps c.loop-number.invariant.all;
      small = small.1;
    })

pub returns : goal.returns
returns c = subst (λ (ks : List ℕ). places_at c.args.sets.now c.loop-number.places ks ≡ places_at c.args.sets.now 0 c.args.numbers) c.in-None.ensures.steps.0 c.loop-number.invariant.all
