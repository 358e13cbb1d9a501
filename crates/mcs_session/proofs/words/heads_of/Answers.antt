use Rattle.std.proofs.Common.{◌≡◌, ◌+◌, ◌∙◌, ◌∷◌, List, ℕ, map, drop, Some, sym, ap, subst, arith}
use Rattle.std.proofs.lemmas.Bool.Decides.{nat_tests}
use Rattle.std.proofs.lemmas.List.{drop_more, drop_all}
use Rattle.mcs_base.proofs.Each.{all_push}
use Rattle.mcs_system.specs.Plain.{Bridge}
use Rattle.mcs_system.specs.Seen.{bridge_of}
use Rattle.mcs_session.specs.Tables.{texts_in}
use Rattle.mcs_session.proofs.TableLemmas.{apart_twice}
use Rattle.mcs_session.proofs.HeadLemmas.{AreHeadsSoFar, head_taken, head_passed, all_heads}
use Rattle.mcs_session.proofs.words.heads_of.Goals as goal
use Rattle.mcs_session.proofs.words.heads_of.Goals.{then-bridge-context+in_ok-text+in_ok-number+in_ok-push, else-bridge-context}

pub loop-rule-preserved : goal.loop-rule-preserved
loop-rule-preserved c =
    let k = c.loop-rule.rule in
    let bridges = c.bridges-bridge-items.result.now in
    let b : Bridge = bridge_of c.bridge-item.result in
    let left : List Bridge = map bridge_of (drop (k + 1) bridges) in
    let rest : map bridge_of (drop k bridges) ≡ b ∷ left =
    ap (map bridge_of) (drop_more bridges k c.bridge-item.result c.loop-rule-test.true) ∙ ap (λ r. bridge_of r ∷ map bridge_of (drop (k + 1) bridges)) (sym c.bridge-item.is) in
    let so_far : AreHeadsSoFar (texts_in c.loop-rule.table.keys) c.args.system.now.bridges c.args.context c.loop-rule.heads.items k (b ∷ left) = subst (λ bs. AreHeadsSoFar (texts_in c.loop-rule.table.keys) c.args.system.now.bridges c.args.context c.loop-rule.heads.items k bs) rest c.loop-rule.invariant.numbered in
    elim c.if-bridge-context.branch [
      | then-bridge-context+in_ok-text+in_ok-number+in_ok-push w ↦ rw (w.table-is, w.heads-is, w.in_ok-push.ensures.items) (record {
        rules = all_push _ c.loop-rule.heads.items _ c.loop-rule.invariant.rules (let t = c.loop-rule-test.true in let f = c.bridges-bridge-items.ensures.few in omega (arith, t, f));
        numbered = head_taken (texts_in c.loop-rule.table.keys) c.args.system.now.bridges c.args.context c.loop-rule.heads.items k b left so_far (texts_in w.number_of.new.table.keys) w.in_ok-number.number w.number_of.ensures.grown.grown (w.in_ok-number.ensures.number ∙ ap (λ (t : List ℕ). Some t) w.in_ok-text.ensures) (let own = w.if-bridge-context.true in grind (arith, nat_tests));
        grown = apart_twice _ _ _ c.loop-rule.invariant.grown w.number_of.ensures.grown;
      })
      | else-bridge-context w ↦ rw (w.table-is, w.heads-is) (record {
        rules = c.loop-rule.invariant.rules;
        numbered = head_passed _ c.args.system.now.bridges c.args.context c.loop-rule.heads.items k b left so_far (let other = w.if-bridge-context.false in grind (arith, nat_tests));
        grown = c.loop-rule.invariant.grown;
      })
    ]

pub returns-clause-heads : goal.returns-clause-heads
returns-clause-heads c =
    let none = drop_all c.loop-rule.rule c.bridges-bridge-items.result.now (omega (arith, c.loop-rule-test.false)) in record {
      rules = c.loop-rule.invariant.rules;
      numbered = all_heads (texts_in c.loop-rule.table.keys) c.args.system.now.bridges c.args.context c.loop-rule.heads.items c.loop-rule.rule (subst (λ bs. AreHeadsSoFar (texts_in c.loop-rule.table.keys) c.args.system.now.bridges c.args.context c.loop-rule.heads.items c.loop-rule.rule (map bridge_of bs)) none c.loop-rule.invariant.numbered);
    }
