use Rattle.std.proofs.Common.{◌+◌, ◌∙◌, ◌++◌, sym, subst, List, map, filter, arith}
use Rattle.mcs_system.specs.Plain.{Name, Formula, ProgramRule}
use Rattle.mcs_system.specs.Seen.{rule_of}
use Rattle.mcs_trace.specs.Clauses.{ClauseList}
use Rattle.mcs_evidence.specs.Programs.{atoms_as, disjunction, is_broken_by, AreOverRules}
use Rattle.mcs_evidence.specs.Pushing.{AreNamesOf, HasOccurrences, HasConjunction}
use Rattle.mcs_base.proofs.Mapped.{map-drop_more}
use Rattle.mcs_evidence.proofs.PushingLemmas.{IsJoining, conjoining}
use Rattle.mcs_evidence.proofs.ProgramClauses.{IsBreaking, broken_more, broken_skipped}
use Rattle.mcs_evidence.proofs.program.join_broken.Goals as goal
use Rattle.mcs_evidence.proofs.program.join_broken.Goals.{then-is_broken+in_ok-x+in_ok-n, else-is_broken}

pub push_either-requires : goal.push_either-requires
push_either-requires c =
    let names = c.args.atoms.now in
    let i = c.loop-rule.rule-index in
    record {
      over = subst (AreNamesOf names) (sym c.deref.ensures.value)
          ((subst (AreOverRules names) (map-drop_more rule_of c.args.rules.now i c.rule-item.result c.loop-rule-test.true c.rule-item.is) c.loop-rule.invariant.over).0.2);
      room = omega (arith, c.requires.can.room, c.loop-rule.invariant.grows);
    }

pub loop-rule-preserved : goal.loop-rule-preserved
loop-rule-preserved c =
    let names = c.args.atoms.now in
    let a = c.args.names.now in
    let rules = c.args.rules.now in
    let i = c.loop-rule.rule-index in
    let r = c.rule-item.result in
    let before = c.loop-rule.invariant in
    let less = c.loop-rule-test.true in
    let is = c.rule-item.is in
    let over = (subst (AreOverRules names) (map-drop_more rule_of rules i r less is) before.over).1 in
    let target : List Formula = map (λ (r : ProgramRule). disjunction (atoms_as r.neg)) (filter (is_broken_by a) (map rule_of rules)) in
    elim c.if-is_broken.branch [
      | then-is_broken+in_ok-x+in_ok-n w ↦
          let pushed = w.in_ok-x.ensures in
          let last = w.in_ok-n.ensures in
          subst (λ (k : ClauseList). IsBreaking names a rules c.args.cnf.now c.args.all (i + 1) k c.if-is_broken.all) (sym w.cnf-is)
          (subst (IsBreaking names a rules c.args.cnf.now c.args.all (i + 1) w.join.new.cnf) (sym w.all-is) (record {
            grows = omega (arith, before.grows, pushed.grows, last.grows);
            over = over;
            part = last.number;
            joined = λ start fs h. conjoining names (fs ++ target) _ _ (disjunction (atoms_as r.neg.items)) start c.loop-rule.cnf w.push_either.new.cnf w.join.new.cnf c.loop-rule.all w.in_ok-x.x w.in_ok-n.n
                (broken_more a rules i r less is (sym c.is_broken.ensures ∙ w.if-is_broken.true)) (before.joined start fs h)
                (subst (λ (ns : List Name). HasOccurrences names (disjunction (atoms_as ns)) c.loop-rule.cnf w.push_either.new.cnf w.in_ok-x.x) w.deref.ensures.value pushed.occurs) last.joined;
          }))
      | else-is_broken w ↦
          subst (λ (k : ClauseList). IsBreaking names a rules c.args.cnf.now c.args.all (i + 1) k c.if-is_broken.all) (sym w.cnf-is)
          (subst (IsBreaking names a rules c.args.cnf.now c.args.all (i + 1) c.loop-rule.cnf) (sym w.all-is) (record {
            grows = before.grows;
            over = over;
            part = before.part;
            joined = λ start fs h. subst (λ (gs : List Formula). IsJoining (λ ks p. HasConjunction names ks start c.loop-rule.cnf p) (fs ++ target) gs c.loop-rule.all)
                (broken_skipped a rules i r less is (sym c.is_broken.ensures ∙ w.if-is_broken.false)) (before.joined start fs h);
          }))
    ]
