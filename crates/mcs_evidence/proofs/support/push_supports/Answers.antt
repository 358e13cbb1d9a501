use Rattle.std.proofs.Common.{◌+◌, ◌∙◌, sym, subst, arith}
use Rattle.mcs_system.specs.Seen.{rule_of}
use Rattle.mcs_trace.specs.Clauses.{ClauseList}
use Rattle.mcs_evidence.specs.Programs.{AreOverRules}
use Rattle.mcs_evidence.specs.Pushing.{HasDisjunction}
use Rattle.mcs_evidence.specs.Supports.{outside_formula}
use Rattle.mcs_base.proofs.Mapped.{map-drop_more}
use Rattle.mcs_evidence.proofs.PushingLemmas.{IsJoining, disjoining}
use Rattle.mcs_evidence.proofs.SupportClauses.{IsSupporting, outsides, outsides_more, outsides_skipped}
use Rattle.mcs_evidence.proofs.support.push_supports.Goals as goal
use Rattle.mcs_evidence.proofs.support.push_supports.Goals.{then-may_support+in_ok-x+in_ok-n, else-may_support}

pub push_outside-requires : goal.push_outside-requires
push_outside-requires c =
    record {
      over = (subst (AreOverRules c.args.atoms.now) (map-drop_more rule_of c.args.rules.now c.loop-rule.rule-index c.rule-item.result c.loop-rule-test.true c.rule-item.is) c.loop-rule.invariant.over).0;
      room = omega (arith, c.requires.room, c.loop-rule.invariant.grows);
    }

pub loop-rule-preserved : goal.loop-rule-preserved
loop-rule-preserved c =
    let names = c.args.atoms.now in
    let u = c.args.set.now in
    let rules = c.args.rules.now in
    let i = c.loop-rule.rule-index in
    let r = c.rule-item.result in
    let before = c.loop-rule.invariant in
    let less = c.loop-rule-test.true in
    let is = c.rule-item.is in
    let over = (subst (AreOverRules names) (map-drop_more rule_of rules i r less is) before.over).1 in
    elim c.if-may_support.branch [
      | then-may_support+in_ok-x+in_ok-n w ↦
          let pushed = w.in_ok-x.ensures in
          let last = w.in_ok-n.ensures in
          subst (λ (k : ClauseList). IsSupporting names u rules c.args.cnf.now (i + 1) k c.if-may_support.any) (sym w.cnf-is)
          (subst (IsSupporting names u rules c.args.cnf.now (i + 1) w.join_either.new.cnf) (sym w.any-is) (record {
            grows = omega (arith, before.grows, pushed.grows, last.grows);
            over = over;
            part = last.number;
            joined = disjoining names (outsides u rules) _ _ (outside_formula u (rule_of r)) c.args.cnf.now c.loop-rule.cnf w.push_outside.new.cnf w.join_either.new.cnf c.loop-rule.any w.in_ok-x.x w.in_ok-n.n
                (outsides_more u rules i r less is (sym c.may_support.ensures ∙ w.if-may_support.true)) before.joined pushed.occurs last.joined;
          }))
      | else-may_support w ↦
          subst (λ (k : ClauseList). IsSupporting names u rules c.args.cnf.now (i + 1) k c.if-may_support.any) (sym w.cnf-is)
          (subst (IsSupporting names u rules c.args.cnf.now (i + 1) c.loop-rule.cnf) (sym w.any-is) (record {
            grows = before.grows;
            over = over;
            part = before.part;
            joined = subst (λ gs. IsJoining (λ ks p. HasDisjunction names ks c.args.cnf.now c.loop-rule.cnf p) (outsides u rules) gs c.loop-rule.any)
                (outsides_skipped u rules i r less is (sym c.may_support.ensures ∙ w.if-may_support.false)) before.joined;
          }))
    ]
