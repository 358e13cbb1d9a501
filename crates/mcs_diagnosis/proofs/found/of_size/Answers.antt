use Rattle.std.proofs.Common.{◌≡◌, ◌∙◌, sym, subst, List, ℕ}
use Rattle.std.proofs.lemmas.List.{take_all}
use Rattle.mcs_sets.specs.Orders.{PairBefore}
use Rattle.mcs_sets.specs.Sets.{size}
use Rattle.mcs_base.specs.Listings.{IsAmong, IsListing}
use Rattle.mcs_base.proofs.ListingLemmas.{kept_more, left_out}
use Rattle.mcs_diagnosis.proofs.found.of_size.Goals.{then-count-level+in_ok-push, else-count-level}
use Rattle.mcs_diagnosis.proofs.found.of_size.Goals as goal

pub loop-marks-preserved : goal.loop-marks-preserved
loop-marks-preserved c =
    let Q = λ (p : ℕ). size p ≡ c.args.level in
    let i = c.loop-marks.marks-index in
    let p = c.marks-item.result in
    elim c.if-count-level.branch [
      | then-count-level+in_ok-push w ↦ rw w.exact-is (rw w.in_ok-push.ensures.items (kept_more PairBefore Q c.args.pairs.now i p c.loop-marks-test.true c.marks-item.is c.requires _ (sym c.count.ensures.number ∙ w.if-count-level.true) c.loop-marks.invariant))
      | else-count-level w ↦ rw w.exact-is (left_out PairBefore Q c.args.pairs.now i p c.loop-marks-test.true c.marks-item.is _ (λ (h : size p ≡ c.args.level). w.if-count-level.false (c.count.ensures.number ∙ h)) c.loop-marks.invariant)
    ]

pub returns : goal.returns
returns c = subst (λ (xs : List ℕ). IsListing (λ p. IsAmong p xs × (size p ≡ c.args.level)) PairBefore c.loop-marks.exact.items) (take_all c.loop-marks.marks-index c.args.pairs.now c.loop-marks-test.false) c.loop-marks.invariant
