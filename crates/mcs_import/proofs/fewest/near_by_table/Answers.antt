use Rattle.std.proofs.Common.{◌≡◌, ◌<◌, ◌∙◌, ℕ, List, length, refl, sym, subst, arith}
use Rattle.std.proofs.lemmas.Result.{IfOk-weaker}
use Rattle.mcs_sets.specs.Sets.{members}
use Rattle.mcs_base.specs.Listings.{IsListing}
use Rattle.mcs_import.specs.Near.{IsNear}
use Rattle.mcs_import.specs.Fewest.{AreSetsOf, IsTable, picked}
use Rattle.mcs_import.proofs.FewestLemmas.{picked_listing}
use Rattle.mcs_import.proofs.fewest.near_by_table.Goals as goal

pub fewest_changes-requires-clause-all : goal.fewest_changes-requires-clause-all
fewest_changes-requires-clause-all c = subst (AreSetsOf (members c.args.rules)) (sym c.deref.ensures.value) c.in_ok-all.ensures

pub returns : goal.returns
returns c =
    let table = subst (λ (xs : List ℕ). IsTable (IsNear c.args.rules c.args.removable c.args.forcible c.args.sets.now) xs c.in_ok-fewest.fewest.items) c.deref.ensures.value c.in_ok-fewest.ensures in
    IfOk-weaker c.picked.result (λ near. near.items ≡ picked c.deref-2.result.now c.deref-3.result.now c.most_needed-most.result (length c.deref-2.result.now))
    (λ near. IsListing (IsNear c.args.rules c.args.removable c.args.forcible c.args.sets.now c.args.level) (λ (a b : ℕ). a < b) near.items)
    (λ near is. picked_listing c.args.rules c.args.removable c.args.forcible c.args.sets.now c.in_ok-all.all.items c.in_ok-fewest.fewest.items c.requires.of_rules c.in_ok-all.ensures table c.args.level 32
    (omega (arith, c.requires.few)) (omega arith) near.items
    (is ∙ rw (c.deref-2.ensures.value, c.deref-3.ensures.value, c.most_needed-most.ensures) refl))
    c.picked.ensures
