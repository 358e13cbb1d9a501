use Rattle.std.proofs.Common.{◌∙◌, ap, sym, map}
use Rattle.std.proofs.lemmas.List.{take_all}
use Rattle.mcs_system.specs.Seen.{formula_of}
use Rattle.mcs_classical.specs.Assumptions.{assumed}
use Rattle.mcs_classical.proofs.AssumptionLemmas.{assumed_taken, assumed_passed}
use Rattle.mcs_classical.proofs.assumptions.assumed.Goals as goal
use Rattle.mcs_classical.proofs.assumptions.assumed.Goals.{then-has+in_ok-push, else-has}

pub loop-assumption-preserved : goal.loop-assumption-preserved
loop-assumption-preserved c =
    let xs = c.args.assumptions.now in
    let i = c.loop-assumption.assumption-index in
    let x = c.assumption-item.result in
    elim c.if-has.branch [
      | then-has+in_ok-push w ↦ assumed_taken c.args.set i xs x c.loop-assumption-test.true c.assumption-item.is c.loop-assumption.formulas.items _ (sym c.has.ensures.value ∙ w.if-has.true) (ap (λ h. h.items) w.formulas-is ∙ w.in_ok-push.ensures.items) c.loop-assumption.invariant
      | else-has w ↦ ap (λ h. map (λ f. formula_of f.now) h.items) w.formulas-is ∙ c.loop-assumption.invariant ∙ sym (assumed_passed c.args.set i xs x c.loop-assumption-test.true c.assumption-item.is (sym c.has.ensures.value ∙ w.if-has.false))
    ]

pub returns : goal.returns
returns c = c.loop-assumption.invariant ∙ ap (assumed c.args.set) (take_all c.loop-assumption.assumption-index c.args.assumptions.now c.loop-assumption-test.false)
