use Rattle.std.proofs.Common.{arith, ap, ◌++◌, [], refl}
use Rattle.std.proofs.lemmas.Result.{IfOk-weaker}
use Rattle.mcs_trace.specs.Clauses.{ClauseList}
use Rattle.mcs_evidence.specs.Pushing.{HasConjunction, HasOccurrences}
use Rattle.mcs_evidence.specs.Programs.{atoms_as, negated_atoms, conjunction, disjunction, rule_formula}
use Rattle.mcs_evidence.proofs.PushingLemmas.{occ_implies, occ_unit}
use Rattle.mcs_evidence.proofs.pushing.push_rule.Goals as goal

pub returns : goal.returns
returns c =
    let names = c.args.atoms.now in
    let start = c.args.cnf.now in
    let pos = atoms_as c.args.pos.now in
    let neg = negated_atoms c.args.neg.now in
    let first : HasConjunction names pos start c.join_atoms.new.cnf c.in_ok-body.body = c.in_ok-body.ensures.joined start [] (refl, refl) in
    let second : HasConjunction names (pos ++ neg) start c.join_negated.new.cnf c.in_ok-body-2.body = c.in_ok-body-2.ensures.joined start pos first in
    let body : HasOccurrences names (conjunction (pos ++ neg)) start c.all_of.new.cnf c.in_ok-x.x = c.in_ok-x.ensures.whole names start (pos ++ neg) second in
    let head = disjunction (atoms_as c.args.head.now) in
    let rule = occ_implies names (conjunction (pos ++ neg)) head start c.all_of.new.cnf c.push_either.new.cnf c.push_implies.new.cnf c.in_ok-x.x c.in_ok-y.y c.in_ok-n.n body c.in_ok-y.ensures.occurs c.in_ok-n.ensures.ok in
    IfOk-weaker c.push_unit.result _ _ (λ _ unit. record { grows = omega (arith, c.in_ok-body.ensures.grows, c.in_ok-body-2.ensures.grows, c.in_ok-x.ensures.grows, c.in_ok-y.ensures.grows, ap (λ (k : ClauseList). k.vars) c.in_ok-n.ensures.ok.1, ap (λ (k : ClauseList). k.vars) unit); pushed = occ_unit names (rule_formula (record { head = c.args.head.now; pos = c.args.pos.now; neg = c.args.neg.now })) start c.push_implies.new.cnf c.push_unit.new.cnf c.in_ok-n.n rule unit }) c.push_unit.ensures.ok
