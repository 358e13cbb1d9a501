use Rattle.std.proofs.Common.{◌≡◌, ◌<◌, ◌≤◌, ◌∙◌, ap, sym, subst, true≢false, length, get_or, List}
use Rattle.std.proofs.lemmas.List.{take_all}
use Rattle.mcs_base.specs.Listings.{IsAmong, IsListing}
use Rattle.mcs_base.specs.Partials.{Fits}
use Rattle.mcs_base.proofs.ListingLemmas.{kept_more, left_out}
use Rattle.mcs_table.specs.declared.row.Row.{Row}
use Rattle.mcs_table.specs.RowOrder.{RowBefore}
use Rattle.mcs_table.proofs.fitting.matching.Goals.{then-fits+in_ok-push, else-fits}
use Rattle.mcs_table.proofs.fitting.matching.Goals as goal

pub loop-row-preserved : goal.loop-row-preserved
loop-row-preserved c =
    let t = c.args.t.now in
    let row = c.row-item.result in
    let i = c.loop-row.row-index in
    let items = c.rows-row-items.ensures.value in
    let less : i < length t.rows = subst (λ (xs : List Row). i < length xs) items c.loop-row-test.true in
    let here : row ≡ get_or t.rows i row = c.row-item.is ∙ ap (λ (xs : List Row). get_or xs i row) items in
    elim c.if-fits.branch [
      | then-fits+in_ok-push w ↦ rw w.found-is (rw w.in_ok-push.ensures.items (kept_more RowBefore (λ r. Fits r.state c.args.partial.now) t.rows i row less here c.rows-row-items.ensures.kept.ascending _ (c.fits.ensures.0 w.if-fits.true) c.loop-row.invariant))
      | else-fits w ↦ rw w.found-is (left_out RowBefore (λ r. Fits r.state c.args.partial.now) t.rows i row less here _ (λ fit. true≢false (sym (c.fits.ensures.1 fit) ∙ w.if-fits.false)) c.loop-row.invariant)
    ]

pub returns : goal.returns
returns c =
    let t = c.args.t.now in
    let past : length t.rows ≤ c.loop-row.row-index = subst (λ (xs : List Row). length xs ≤ c.loop-row.row-index) c.rows-row-items.ensures.value c.loop-row-test.false in
    subst (λ (xs : List Row). IsListing (λ r. IsAmong r xs × Fits r.state c.args.partial.now) RowBefore c.loop-row.found.items) (take_all c.loop-row.row-index t.rows past) c.loop-row.invariant
