use Rattle.std.proofs.Common.{◌+◌, List, [], ◌∷◌, sym, ap, subst, ◌∙◌, arith}
use Rattle.std.specs.List.{list_any}
use Rattle.mcs_system.specs.Seen.{rule_of}
use Rattle.mcs_system.specs.Plain.{Name}
use Rattle.mcs_system.specs.Logic.{is_in}
use Rattle.mcs_cnf.specs.ClauseLists.{with_formulas}
use Rattle.mcs_evidence.specs.Programs.{rule_formula, AreOverRules}
use Rattle.mcs_base.proofs.Mapped.{map-drop_more}
use Rattle.mcs_evidence.proofs.ProgramClauses.{IsReducing, reduct_pushed, reduct_skipped}
use Rattle.mcs_evidence.proofs.program.push_reduct.Goals as goal
use Rattle.mcs_evidence.proofs.program.push_reduct.Goals.{then-not-some_among+in_ok-push_rule, else-not-some_among}

pub loop-rule-preserved : goal.loop-rule-preserved
loop-rule-preserved c =
    let names = c.args.atoms.now in
    let a = c.args.model.now in
    let rules = c.args.rules.now in
    let i = c.loop-rule.rule-index in
    let r = c.rule-item.result in
    let before = c.loop-rule.invariant in
    let less = c.loop-rule-test.true in
    let is = c.rule-item.is in
    let some = c.some_among.ensures ∙ ap (list_any (λ n. is_in n a)) c.deref.ensures.value in
    let over = (subst (AreOverRules names) (map-drop_more rule_of rules i r less is) before.over).1 in
    elim c.if-not-some_among.branch [
      | then-not-some_among+in_ok-push_rule w ↦
          let pushed = w.in_ok-push_rule.ensures in
          subst (IsReducing names a rules c.args.cnf.now (i + 1)) (sym w.cnf-is) (record {
            grows = omega (arith, before.grows, pushed.grows);
            over = over;
            pushed = reduct_pushed names a rules i r less is c.loop-rule.cnf w.push_rule.new.cnf (sym some ∙ w.if-not-some_among.true)
                (pushed.pushed
                ∙ ap (λ (h : List Name). with_formulas names c.loop-rule.cnf (rule_formula (record { head = h; pos = w.deref-then-not-some_among-2.result.now; neg = [] }) ∷ [])) w.deref-then-not-some_among.ensures.value
                ∙ ap (λ (p : List Name). with_formulas names c.loop-rule.cnf (rule_formula (record { head = r.head.items; pos = p; neg = [] }) ∷ [])) w.deref-then-not-some_among-2.ensures.value)
                ∙ before.pushed;
          })
      | else-not-some_among w ↦
          subst (IsReducing names a rules c.args.cnf.now (i + 1)) (sym w.cnf-is) (record {
            grows = before.grows;
            over = over;
            pushed = reduct_skipped names a rules i r less is c.loop-rule.cnf (sym some ∙ w.if-not-some_among.false) ∙ before.pushed;
          })
    ]
