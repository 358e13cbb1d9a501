use Rattle.std.proofs.Common.{◌++◌, ◌∷◌, ℕ, List, [], length, refl, ap, sym, subst, arith, append_assoc}
use Rattle.std.proofs.lemmas.List.{append-nil}
use Rattle.mcs_sets.specs.Sets.{size}
use Rattle.mcs_system.specs.Imports.{FollowsOrder, IsImportOrder}
use Rattle.mcs_import.specs.Reach.{AreStrict, IsFirstFree}
use Rattle.mcs_import.proofs.ReachLemmas.{ahead_strict, imports_below}
use Rattle.mcs_import.proofs.OrderLemmas.{AreUntaken, untaken_all, untaken_less, all_taken, first_is_next}
use Rattle.mcs_sets.proofs.Lattice.{size-without}
use Rattle.mcs_import.proofs.order.import_order.Goals as goal
use Rattle.mcs_import.proofs.order.import_order.Goals.{In-Some}

pub loop-i-init : goal.loop-i-init
loop-i-init c = record {
  untaken = subst (λ (xs : List ℕ). AreUntaken c.args.system.now xs c.all_contexts-untaken.result) (sym c.new-order.ensures.items) (subst (AreUntaken c.args.system.now []) (sym c.all_contexts-untaken.ensures) (untaken_all c.args.system.now (length c.args.system.now.contexts) refl));
  ordered = λ rest. subst (λ (xs : List ℕ). FollowsOrder c.args.system.now xs rest → IsImportOrder c.args.system.now (xs ++ rest)) (sym c.new-order.ensures.items) (λ h. h);
}

pub first_free-requires-clause-few : goal.first_free-requires-clause-few
first_free-requires-clause-few c = omega (arith, ap length c.deref.ensures.value, c.in_ok-ahead.ensures.rows.one_each, c.in_ok-ahead.ensures.few)

pub first_free-requires-clause-strict : goal.first_free-requires-clause-strict
first_free-requires-clause-strict c = subst AreStrict (sym c.deref.ensures.value) (ahead_strict c.args.system.now c.in_ok-ahead.ahead.items c.in_ok-ahead.ensures.rows)

first_found : (c : In-Some) → IsFirstFree c.in_ok-ahead.ahead.items c.loop-i.untaken c.in-Some.i
first_found c = subst (λ (rows : List ℕ). IsFirstFree rows c.loop-i.untaken c.in-Some.i) c.deref.ensures.value c.in-Some.ensures.first

pub loop-i-smaller : goal.loop-i-smaller
loop-i-smaller c =
    let first = first_found (goal.at.loop-i-smaller c).In-Some in
    omega (arith, size-without c.loop-i.untaken c.in-Some.i first.free.0, ap size c.without-untaken.ensures)

pub loop-i-preserved : goal.loop-i-preserved
loop-i-preserved c =
    let first = first_found (goal.at.loop-i-preserved c).In-Some in
    let next = first_is_next c.args.system.now (length c.args.system.now.contexts) (imports_below c.args.system.now c.in_ok-ahead.ensures.valid) c.in_ok-ahead.ahead.items c.in_ok-ahead.ensures.rows c.loop-i.order.items c.loop-i.untaken c.in-Some.i c.loop-i.invariant.untaken first in record {
      untaken = subst (λ (xs : List ℕ). AreUntaken c.args.system.now xs c.without-untaken.result) (sym c.in_ok-push.ensures.items)
          (subst (AreUntaken c.args.system.now (c.loop-i.order.items ++ c.in-Some.i ∷ [])) (sym c.without-untaken.ensures) (untaken_less c.args.system.now c.loop-i.order.items c.loop-i.untaken c.in-Some.i c.loop-i.invariant.untaken));
      ordered = λ rest. subst (λ (xs : List ℕ). FollowsOrder c.args.system.now xs rest → IsImportOrder c.args.system.now (xs ++ rest)) (sym c.in_ok-push.ensures.items)
          (λ h. subst (IsImportOrder c.args.system.now) (sym (append_assoc c.loop-i.order.items (c.in-Some.i ∷ []) rest)) (c.loop-i.invariant.ordered (c.in-Some.i ∷ rest) (next, h)));
    }

pub returns : goal.returns
returns c = subst (IsImportOrder c.args.system.now) (append-nil c.loop-i.order.items)
    (c.loop-i.invariant.ordered [] (all_taken c.args.system.now c.loop-i.order.items c.loop-i.untaken c.loop-i.invariant.untaken c.in_default.ensures.none))
