use Rattle.std.proofs.Common.{◌<◌, ℕ, List, length, refl, ap, subst, arith}
use Rattle.std.proofs.lemmas.List.Elements.{recursion_from_All}
use Rattle.std.specs.List.{AllByRecursion}
use Rattle.mcs_import.specs.Fewest.{fewest_at, AreTaken}
use Rattle.mcs_import.proofs.FewestLemmas.{IsTableSoFar, table_begins, table_goes_on, table_ends, closed_places}
use Rattle.mcs_import.proofs.fewest.fewest_changes.Goals as goal

pub loop-bit-init : goal.loop-bit-init
loop-bit-init c = rw (c.into_iter-bit-iterator.ensures.into_iter_gives, c.enumerate-bit-items.ensures.source, c.enumerate-bit-items.ensures.count) (record {
  table = table_begins c.args.rules c.args.removable c.args.forcible c.args.sets.now c.args.all.now c.requires.of_rules c.requires.all 0 c.members.result c.in_ok-fewest.fewest.items refl c.members.ensures.list c.in_ok-fewest.ensures;
  known = recursion_from_All (λ k. k < 64) c.members.result c.members.ensures.below;
  few = omega (arith, c.members.ensures.few);
})

pub with_rule-requires-clause-closed : goal.with_rule-requires-clause-closed
with_rule-requires-clause-closed c =
    let (first, here, next, room) = c.in-Some.ensures.steps in
    let so_far = subst (λ (rs : List ℕ). IsTableSoFar c.args.rules c.args.removable c.args.forcible c.args.sets.now c.args.all.now c.loop-bit.bit-iterator.count rs c.loop-bit.fewest.items) first c.loop-bit.invariant.table in
    rw (c.deref.ensures.value, here)
    (closed_places c.args.rules c.args.removable c.args.forcible c.args.sets.now c.args.all.now c.requires.of_rules c.requires.all c.loop-bit.bit-iterator.count _ _ c.loop-bit.fewest.items so_far)

pub loop-bit-preserved : goal.loop-bit-preserved
loop-bit-preserved c =
    let (first, here, next, room) = c.in-Some.ensures.steps in
    let so_far = subst (λ (rs : List ℕ). IsTableSoFar c.args.rules c.args.removable c.args.forcible c.args.sets.now c.args.all.now c.loop-bit.bit-iterator.count rs c.loop-bit.fewest.items) first c.loop-bit.invariant.table in
    let known = subst (AllByRecursion (λ k. k < 64)) first c.loop-bit.invariant.known in
    let taken = subst (λ (xs : List ℕ). AreTaken (fewest_at xs c.in-Some.bit c.has.result c.has-in-loop-bit.result) (length xs) c.in_ok-fewest-2.fewest.items) c.deref.ensures.value c.in_ok-fewest-2.ensures in
    rw next (record {
      table = table_goes_on c.args.rules c.args.removable c.args.forcible c.args.sets.now c.args.all.now c.requires.of_rules c.requires.all c.loop-bit.bit-iterator.count _ _ c.loop-bit.fewest.items so_far
          c.in-Some.bit c.has.result c.has-in-loop-bit.result c.in_ok-fewest-2.fewest.items _ _ here c.has.ensures.value c.has-in-loop-bit.ensures.value taken refl refl;
      known = known.1;
      few = omega (arith, ap length first, c.loop-bit.invariant.few);
    })

pub returns : goal.returns
returns c = table_ends c.args.rules c.args.removable c.args.forcible c.args.sets.now c.args.all.now c.requires.of_rules c.requires.all c.loop-bit.bit-iterator.count c.loop-bit.bit-iterator.iter c.loop-bit.fewest.items c.in-None.ensures.steps.0.0 c.loop-bit.invariant.table
