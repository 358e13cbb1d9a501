use Rattle.std.proofs.Common.{length, refl, sym, subst}
use Rattle.std.proofs.lemmas.Option.{slice_get_read}
use Rattle.std.specs.List.{AllByRecursion}
use Rattle.mcs_base.proofs.Each.{all_get, all_push}
use Rattle.mcs_default.specs.Searches.{IsConflict}
use Rattle.mcs_default.specs.Keeping.{items_with, IsKeptConflict}
use Rattle.mcs_default.proofs.kept.keep_conflicts.Goals as goal

pub loop-index-preserved : goal.loop-index-preserved
loop-index-preserved c items given found kept =
    let xs = c.args.conflicts.now in
    let i = c.loop-index.index in
    let x = c.index-conflicts-index.result in
    let right = all_get (IsConflict (items_with items given c.args.assumed)) xs i x found (slice_get_read xs (length xs) i x refl c.loop-index-test.true c.index-conflicts-index.is) in
    subst (AllByRecursion (IsKeptConflict items given)) (sym c.in_ok-push.ensures.items)
    (all_push (IsKeptConflict items given) c.loop-index.kept.items (record { assumed = c.args.assumed; set = x }) (c.loop-index.invariant items given found kept) right)

pub returns-in_err-push : goal.returns-in_err-push
returns-in_err-push c items given found kept = subst (AllByRecursion (IsKeptConflict items given)) (sym c.in_err-push.ensures.items) (c.loop-index.invariant items given found kept)
