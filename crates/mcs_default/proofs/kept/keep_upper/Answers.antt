use Rattle.std.proofs.Common.{length, refl, sym, subst}
use Rattle.std.proofs.lemmas.Option.{slice_get_read}
use Rattle.std.specs.List.{AllByRecursion}
use Rattle.mcs_base.proofs.Each.{all_get, all_push}
use Rattle.mcs_default.specs.Searches.{IsUpper}
use Rattle.mcs_default.specs.Keeping.{items_with, IsKeptUpper}
use Rattle.mcs_default.proofs.KeptLemmas.{upper_held}
use Rattle.mcs_default.proofs.kept.keep_upper.Goals as goal

pub loop-index-preserved : goal.loop-index-preserved
loop-index-preserved c items set found kept =
    let names = c.args.given.now.asked.now.atoms.now in
    let given = c.args.given.now.assumptions.now in
    let xs = c.args.upper.now in
    let i = c.loop-index.index in
    let x = c.index-upper-index.result in
    let right = all_get (IsUpper names (items_with items given set)) xs i x found (slice_get_read xs (length xs) i x refl c.loop-index-test.true c.index-upper-index.is) in
    subst (AllByRecursion (IsKeptUpper names items given)) (sym c.in_ok-push.ensures.items)
    (all_push (IsKeptUpper names items given) c.loop-index.kept.items (record { assumed = c.holding.result; upper = x }) (c.loop-index.invariant items set found kept) (upper_held items given names set c.holding.result x c.holding.ensures.each right))

pub returns-in_err-push : goal.returns-in_err-push
returns-in_err-push c items set found kept = subst (AllByRecursion (IsKeptUpper c.args.given.now.asked.now.atoms.now items c.args.given.now.assumptions.now)) (sym c.in_err-push.ensures.items) (c.loop-index.invariant items set found kept)
