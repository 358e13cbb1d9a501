use Rattle.std.proofs.Common.{ℕ, List, IsTrue, sym, ap, ◌∙◌, subst, true≢false}
use Rattle.std.proofs.lemmas.List.{take_all}
use Rattle.std.specs.List.{AllByRecursion}
use Rattle.mcs_sets.specs.Sets.{has}
use Rattle.mcs_sets.proofs.SetLemmas.{has-empty}
use Rattle.mcs_classical.specs.Assumptions.{DoHold, HoldsAt}
use Rattle.mcs_classical.specs.declared.assumptions.Assumption.{Assumption}
use Rattle.mcs_classical.proofs.AssumptionLemmas.{AreSorted, sorted_held, sorted_failed, holding_each, holding_all}
use Rattle.mcs_classical.proofs.assumptions.holding.Goals as goal
use Rattle.mcs_classical.proofs.assumptions.holding.Goals.{then-holds_at, else-holds_at}

pub loop-assumption-init : goal.loop-assumption-init
loop-assumption-init c = record { sorted = tt; fails = λ n each. ap (λ (s : ℕ). has s n) c.empty-failed.ensures ∙ has-empty n }

pub loop-assumption-preserved : goal.loop-assumption-preserved
loop-assumption-preserved c =
    let names = c.args.given.now.asked.now.atoms.now in
    let xs = c.args.given.now.assumptions.now in
    let i = c.loop-assumption.assumption-index in
    let x = c.assumption-item.result in
    elim c.if-holds_at.branch [
      | then-holds_at w ↦ rw (w.held-is ∙ w.with-held.ensures, w.failed-is)
          (sorted_held names c.args.values c.loop-assumption.held c.loop-assumption.failed i xs x c.loop-assumption-test.true c.assumption-item.is (sym c.holds_at.ensures ∙ w.if-holds_at.true) c.loop-assumption.invariant)
      | else-holds_at w ↦ rw (w.failed-is ∙ w.with-failed.ensures, w.held-is)
          (sorted_failed names c.args.values c.loop-assumption.held c.loop-assumption.failed i xs x c.loop-assumption-test.true c.assumption-item.is (λ h. true≢false (sym h ∙ sym c.holds_at.ensures ∙ w.if-holds_at.false)) c.loop-assumption.invariant)
    ]

pub returns-clause-each : goal.returns-clause-each
returns-clause-each c =
    let names = c.args.given.now.asked.now.atoms.now in
    let xs = c.args.given.now.assumptions.now in
    let all = subst (λ (ys : List Assumption). AreSorted names c.args.values c.loop-assumption.held c.loop-assumption.failed ys) (take_all c.loop-assumption.assumption-index xs c.loop-assumption-test.false) c.loop-assumption.invariant in
    subst (λ (s : ℕ). AllByRecursion (λ (a : Assumption). IsTrue (has s a.number) → HoldsAt names c.args.values a) xs) (sym c.minus.ensures) (holding_each names c.args.values c.loop-assumption.held c.loop-assumption.failed xs all)

pub returns-clause-all : goal.returns-clause-all
returns-clause-all c =
    let names = c.args.given.now.asked.now.atoms.now in
    let xs = c.args.given.now.assumptions.now in
    let all = subst (λ (ys : List Assumption). AreSorted names c.args.values c.loop-assumption.held c.loop-assumption.failed ys) (take_all c.loop-assumption.assumption-index xs c.loop-assumption-test.false) c.loop-assumption.invariant in
    subst (λ (s : ℕ). AllByRecursion (λ (a : Assumption). DoHold names c.args.values a.number xs → IsTrue (has s a.number)) xs) (sym c.minus.ensures) (holding_all names c.args.values c.loop-assumption.held c.loop-assumption.failed xs all)
