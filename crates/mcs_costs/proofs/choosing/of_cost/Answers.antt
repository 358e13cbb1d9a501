use Rattle.std.proofs.Common.{◌≡◌, ◌∙◌, sym, subst, List, ℕ}
use Rattle.std.proofs.lemmas.List.{take_all}
use Rattle.mcs_sets.specs.Orders.{PairBefore}
use Rattle.mcs_sets.specs.Sets.{Within}
use Rattle.mcs_base.specs.Listings.{IsAmong, IsListing}
use Rattle.mcs_base.proofs.Each.{all_read}
use Rattle.mcs_base.proofs.ListingLemmas.{kept_more, left_out}
use Rattle.mcs_system.specs.Repairs.{all_marks}
use Rattle.mcs_costs.specs.Costs.{cost}
use Rattle.mcs_costs.proofs.choosing.of_cost.Goals.{then-cost-price+in_ok-push, else-cost-price}
use Rattle.mcs_costs.proofs.choosing.of_cost.Goals as goal

pub cost-requires : goal.cost-requires
cost-requires c = all_read (λ p. Within p (all_marks c.args.system.now)) c.args.pairs.now c.loop-marks.marks-index c.marks-item.result c.loop-marks-test.true c.marks-item.is c.requires.marks

pub loop-marks-preserved : goal.loop-marks-preserved
loop-marks-preserved c =
    let Q = λ (p : ℕ). c.args.price ≡ cost c.args.system.now p in
    let i = c.loop-marks.marks-index in
    let p = c.marks-item.result in
    elim c.if-cost-price.branch [
      | then-cost-price+in_ok-push w ↦ rw w.kept-is (rw w.in_ok-push.ensures.items (kept_more PairBefore Q c.args.pairs.now i p c.loop-marks-test.true c.marks-item.is c.requires.ascending _ (sym w.if-cost-price.true ∙ c.cost.ensures.value) c.loop-marks.invariant))
      | else-cost-price w ↦ rw w.kept-is (left_out PairBefore Q c.args.pairs.now i p c.loop-marks-test.true c.marks-item.is _ (λ (h : c.args.price ≡ cost c.args.system.now p). w.if-cost-price.false (c.cost.ensures.value ∙ sym h)) c.loop-marks.invariant)
    ]

pub returns : goal.returns
returns c = subst (λ (xs : List ℕ). IsListing (λ p. IsAmong p xs × (c.args.price ≡ cost c.args.system.now p)) PairBefore c.loop-marks.kept.items) (take_all c.loop-marks.marks-index c.args.pairs.now c.loop-marks-test.false) c.loop-marks.invariant
