use Rattle.std.proofs.Common.{length, refl, sym, subst}
use Rattle.std.proofs.lemmas.Option.{slice_get_read}
use Rattle.std.specs.List.{AllByRecursion}
use Rattle.mcs_base.proofs.Each.{all_get, all_push}
use Rattle.mcs_default.specs.Searches.{IsLower}
use Rattle.mcs_default.specs.Keeping.{items_with, IsKeptLower}
use Rattle.mcs_default.proofs.KeptLemmas.{lower_larger}
use Rattle.mcs_default.proofs.kept.select_lower.Goals.{then-within+in_ok-push, else-within}
use Rattle.mcs_default.proofs.kept.select_lower.Goals as goal

pub loop-found-preserved : goal.loop-found-preserved
loop-found-preserved c items given all =
    let kept = c.args.kept.now in
    let x = c.found-item.result in
    let before = c.loop-found.invariant items given all in
    elim c.if-within.branch [
      | then-within+in_ok-push w ↦
          let held = all_get (IsKeptLower items given) kept c.loop-found.found-index x all (slice_get_read kept (length kept) c.loop-found.found-index x refl c.loop-found-test.true c.found-item.is) in
          rw w.lower-is (subst (AllByRecursion (IsLower (items_with items given c.args.assumed))) (sym w.in_ok-push.ensures.items)
          (all_push (IsLower (items_with items given c.args.assumed)) c.loop-found.lower.items x.lower before (lower_larger items given x.assumed c.args.assumed (c.within.ensures.0 w.if-within.true) x.lower held)))
      | else-within w ↦ rw w.lower-is before
    ]
