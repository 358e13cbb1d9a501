use Rattle.std.proofs.Common.{◌≡◌, ◌<◌, ◌∙◌, ℕ, List, length, map, true, false, sym, subst, arith}
use Rattle.std.specs.List.{AllByRecursion}
use Rattle.std.proofs.lemmas.List.{length-map}
use Rattle.mcs_sets.specs.Sets.{has}
use Rattle.mcs_base.proofs.Each.{all_push}
use Rattle.mcs_system.specs.Plain.{Default}
use Rattle.mcs_system.specs.Seen.{default_of}
use Rattle.mcs_extensions.proofs.VerdictLemmas.{outside_none, outside_more, outside_same, outside_all}
use Rattle.mcs_extensions.proofs.absence.places_outside.Goals.{then-not-has+in_ok-push, else-not-has}
use Rattle.mcs_extensions.proofs.absence.places_outside.Goals as goal

pub loop-index-init : goal.loop-index-init
loop-index-init c = rw c.new-places.ensures.items (record {
  bound = omega arith;
  places = outside_none (map (λ d. default_of d.now) c.args.defaults.now) c.args.set;
  below = tt;
})

pub loop-index-preserved : goal.loop-index-preserved
loop-index-preserved c =
    let i = c.loop-index.index in
    let ds : List Default = map (λ d. default_of d.now) c.args.defaults.now in
    let less : i < length ds = omega (arith, length-map c.args.defaults.now (λ d. default_of d.now), c.loop-index-test.true) in
    elim c.if-not-has.branch [
      | then-not-has+in_ok-push w ↦
          let out : has c.args.set i ≡ false = sym c.has.ensures.value ∙ w.if-not-has.true in
          rw w.places-is (record {
            bound = omega (arith, c.loop-index-test.true);
            places = outside_more ds c.args.set i c.loop-index.places.items w.push.new.self.items less out w.in_ok-push.ensures.items c.loop-index.invariant.places;
            below = subst (AllByRecursion (λ (k : ℕ). k < 64)) (sym w.in_ok-push.ensures.items) (all_push (λ (k : ℕ). k < 64) c.loop-index.places.items i c.loop-index.invariant.below (omega arith));
          })
      | else-not-has w ↦
          let member : has c.args.set i ≡ true = sym c.has.ensures.value ∙ w.if-not-has.false in
          rw w.places-is (record {
            bound = omega (arith, c.loop-index-test.true);
            places = outside_same ds c.args.set i c.loop-index.places.items less member c.loop-index.invariant.places;
            below = c.loop-index.invariant.below;
          })
    ]

pub returns-clause-places : goal.returns-clause-places
returns-clause-places c =
    let ds : List Default = map (λ d. default_of d.now) c.args.defaults.now in
    let all : c.loop-index.index ≡ length ds = omega (arith, length-map c.args.defaults.now (λ d. default_of d.now), c.loop-index-test.false, c.loop-index.invariant.bound) in
    outside_all ds c.args.set c.loop-index.index c.loop-index.places.items all c.loop-index.invariant.places

pub returns-clause-below : goal.returns-clause-below
returns-clause-below c = c.loop-index.invariant.below
