use Rattle.std.proofs.Common.{ℕ, sym, subst}
use Rattle.std.proofs.lemmas.List.{take_all}
use Rattle.std.proofs.lemmas.Bool.{iff_false}
use Rattle.std.specs.List.{AllByRecursion}
use Rattle.mcs_base.specs.Listings.{IsAmong}
use Rattle.mcs_base.proofs.Among.{among_at}
use Rattle.mcs_base.proofs.Booleans.{false_tells, true_tells}
use Rattle.mcs_base.proofs.Each.{all_among, all_take_more}
use Rattle.mcs_evidence.specs.Programs.{IsInRange}
use Rattle.mcs_judging.proofs.programs.are_in_range.Goals as goal

pub returns-then-not-is_in_range : goal.returns-then-not-is_in_range
returns-then-not-is_in_range c =
    let n : ℕ = c.set-item.result in
    let among : IsAmong n c.args.sets.now = subst (λ (x : ℕ). IsAmong x c.args.sets.now) (sym c.set-item.is) (among_at c.args.sets.now c.loop-set.set-index n c.loop-set-test.true) in
    false_tells (λ all. iff_false c.is_in_range.ensures c.if-not-is_in_range.true (subst (IsInRange c.args.atoms.now) (sym c.number.ensures) (all_among (IsInRange c.args.atoms.now) c.args.sets.now n all among)))

pub loop-set-init : goal.loop-set-init
loop-set-init c = tt

pub loop-set-preserved : goal.loop-set-preserved
loop-set-preserved c =
    all_take_more (IsInRange c.args.atoms.now) c.args.sets.now c.loop-set.set-index c.set-item.result c.loop-set-test.true c.set-item.is c.loop-set.invariant
    (subst (IsInRange c.args.atoms.now) c.number.ensures (c.is_in_range.ensures.0 c.if-not-is_in_range.false))

pub returns : goal.returns
returns c = true_tells (subst (AllByRecursion (IsInRange c.args.atoms.now)) (take_all c.loop-set.set-index c.args.sets.now c.loop-set-test.false) c.loop-set.invariant)
