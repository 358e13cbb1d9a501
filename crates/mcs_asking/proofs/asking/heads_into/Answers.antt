use Rattle.std.proofs.Common.{◌≡◌, ◌+◌, ◌∙◌, ◌∷◌, true, false, map, drop, refl, sym, ap, arith}
use Rattle.std.proofs.lemmas.Bool.Decides.{nat_tests}
use Rattle.std.proofs.lemmas.List.{drop_more, drop_all}
use Rattle.std.proofs.Common.{append-nil}
use Rattle.mcs_sets.specs.Sets.{has}
use Rattle.mcs_system.specs.Seen.{formula_of, bridge_of}
use Rattle.mcs_asking.proofs.AskingLemmas.{head_taken, head_passed}
use Rattle.mcs_asking.proofs.asking.heads_into.Goals as goal
use Rattle.mcs_asking.proofs.asking.heads_into.Goals.{then-has+then-rule-context+in_ok-push, else-has, else-has-via-then-has+else-rule-context, else-has-via-else-has}

pub loop-k-init : goal.loop-k-init
loop-k-init c = rw (c.bridges-rule-items.ensures.value, c.new-heads.ensures.items) (record { all = refl })

pub loop-k-preserved : goal.loop-k-preserved
loop-k-preserved c =
    let rest : map bridge_of (drop c.loop-k.k c.bridges-rule-items.result.now) ≡ bridge_of c.rule-item.result ∷ map bridge_of (drop (c.loop-k.k + 1) c.bridges-rule-items.result.now) =
    ap (map bridge_of) (drop_more c.bridges-rule-items.result.now c.loop-k.k c.rule-item.result c.loop-k-test.true) ∙ ap (λ r. bridge_of r ∷ map bridge_of (drop (c.loop-k.k + 1) c.bridges-rule-items.result.now)) (sym c.rule-item.is) in
    let all = rw rest at c.loop-k.invariant.all in
    elim c.if-has.branch [
      | then-has+then-rule-context+in_ok-push w ↦ record {
        all = head_taken c.loop-k.k (bridge_of c.rule-item.result) _ c.args.context c.args.rules c.loop-k.heads.items _ _ _ (sym c.has.ensures.value ∙ w.if-has.true) (let own = w.if-rule-context.true in grind (arith, nat_tests)) (ap (λ h. h.items) w.heads-is ∙ w.in_ok-push.ensures.items) refl all;
      }
      | else-has w ↦ record {
        all = rw w.heads-is (elim w.else-has.branch [
          | else-has-via-then-has+else-rule-context v ↦ head_passed c.loop-k.k (bridge_of c.rule-item.result) _ c.args.context c.args.rules _ _ (let other = v.if-rule-context.false in let on : has c.args.rules c.loop-k.k ≡ true = sym c.has.ensures.value ∙ v.if-has.true in grind (arith, nat_tests)) all
          | else-has-via-else-has v ↦ head_passed c.loop-k.k (bridge_of c.rule-item.result) _ c.args.context c.args.rules _ _ (let off : has c.args.rules c.loop-k.k ≡ false = sym c.has.ensures.value ∙ v.if-has.false in rw off refl) all
        ]);
      }
    ]

pub returns : goal.returns
returns c =
    let none = drop_all c.loop-k.k c.bridges-rule-items.result.now (omega (arith, c.loop-k-test.false)) in
    let ends = rw none at c.loop-k.invariant.all in
    sym (append-nil (map (λ f. formula_of f.now) c.loop-k.heads.items)) ∙ ends
