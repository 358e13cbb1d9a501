use Rattle.std.proofs.Common.{◌≡◌, ◌+◌, ◌∙◌, ◌<◌, ◌∷◌, ◌++◌, ℕ, map, drop, refl, sym, ap, arith, subst, append-nil}
use Rattle.std.proofs.lemmas.Bool.Decides.{nat_tests}
use Rattle.std.proofs.lemmas.List.{drop_more, drop_all}
use Rattle.std.specs.List.{AllByRecursion}
use Rattle.mcs_base.proofs.Each.{all_push}
use Rattle.mcs_system.specs.Seen.{bridge_of}
use Rattle.mcs_system.specs.Systems.{heads_from, heads_into}
use Rattle.mcs_classical.specs.Assumptions.{assumed}
use Rattle.mcs_classical.specs.declared.assumptions.Assumption.{Assumption}
use Rattle.mcs_classical.proofs.AssumptionLemmas.{assumed_more, assumed_so}
use Rattle.mcs_classical.proofs.assumptions.assumptions_into.Goals as goal
use Rattle.mcs_classical.proofs.assumptions.assumptions_into.Goals.{then-rule-context+in_ok-push, else-rule-context}

pub loop-number-init : goal.loop-number-init
loop-number-init c = rw (c.bridges-rule-items.ensures.value, c.new-heads.ensures.items) (record { of_rules = λ rules. refl; numbers = tt })

pub loop-number-preserved : goal.loop-number-preserved
loop-number-preserved c =
    let rest : map bridge_of (drop c.loop-number.number c.bridges-rule-items.result.now) ≡ bridge_of c.rule-item.result ∷ map bridge_of (drop (c.loop-number.number + 1) c.bridges-rule-items.result.now) =
    ap (map bridge_of) (drop_more c.bridges-rule-items.result.now c.loop-number.number c.rule-item.result c.loop-number-test.true) ∙ ap (λ r. bridge_of r ∷ map bridge_of (drop (c.loop-number.number + 1) c.bridges-rule-items.result.now)) (sym c.rule-item.is) in
    let all : (rules : ℕ) → assumed rules c.loop-number.heads.items ++ heads_from c.loop-number.number (bridge_of c.rule-item.result ∷ map bridge_of (drop (c.loop-number.number + 1) c.bridges-rule-items.result.now)) c.args.context rules ≡ heads_into c.args.system.now c.args.context rules = rw rest at c.loop-number.invariant.of_rules in
    elim c.if-rule-context.branch [
      | then-rule-context+in_ok-push w ↦
          let pushed = ap (λ h. h.items) w.heads-is ∙ w.in_ok-push.ensures.items in
          record {
            of_rules = λ rules. assumed_more c.loop-number.number (bridge_of c.rule-item.result) _ c.args.context c.loop-number.heads.items _ _ rules _ (let own = w.if-rule-context.true in grind (arith, nat_tests)) pushed refl refl (all rules);
            numbers = subst (AllByRecursion (λ (a : Assumption). a.number < 64)) (sym pushed) (all_push (λ (a : Assumption). a.number < 64) c.loop-number.heads.items _ c.loop-number.invariant.numbers (omega (arith, c.loop-number-test.true, c.bridges-rule-items.ensures.few)));
          }
      | else-rule-context w ↦ rw w.heads-is (record {
        of_rules = λ rules. assumed_so c.loop-number.number (bridge_of c.rule-item.result) _ c.args.context _ rules _ (let other = w.if-rule-context.false in grind (arith, nat_tests)) (all rules);
        numbers = c.loop-number.invariant.numbers;
      })
    ]

pub returns : goal.returns
returns c = record {
  valid = c.bridges-rule-items.ensures.valid;
  of_rules = λ rules. (
      let none = drop_all c.loop-number.number c.bridges-rule-items.result.now (omega (arith, c.loop-number-test.false)) in
      let ends = rw none at c.loop-number.invariant.of_rules rules in sym (append-nil (assumed rules c.loop-number.heads.items)) ∙ ends);
  numbers = c.loop-number.invariant.numbers;
}
