use Rattle.std.proofs.Common.{◌↔◌, ℕ, List, arith, subst}
use Rattle.std.proofs.lemmas.List.{take_all}
use Rattle.mcs_base.specs.Listings.{IsAmong}
use Rattle.mcs_import.specs.Near.{IsNextNear}
use Rattle.mcs_import.proofs.NearLemmas.{next_step}
use Rattle.mcs_import.proofs.near.next_sets.Goals as goal

pub loop-set-preserved : goal.loop-set-preserved
loop-set-preserved c =
    next_step c.args.removable c.args.forcible c.args.sets.now c.args.reached.now c.loop-set.set-index c.set-item.result c.loop-set-test.true c.set-item.is
    c.loop-set.next.items c.add_without.new.found.items c.add_with.new.found.items c.common.result c.minus.result c.common.ensures c.minus.ensures
    c.loop-set.invariant c.in_ok-add_without.ensures c.in_ok-add_with.ensures

pub returns : goal.returns
returns c = λ x.
    let listed = c.list_rule_sets.ensures.exactly x in
    let told = subst (λ (sets : List ℕ). IsAmong x c.loop-set.next.items ↔ IsNextNear c.args.removable c.args.forcible sets c.args.reached.now x) (take_all c.loop-set.set-index c.args.sets.now (omega arith)) (c.loop-set.invariant x) in
    (λ h. told.0 (listed.0 h), λ h. listed.1 (told.1 h))
