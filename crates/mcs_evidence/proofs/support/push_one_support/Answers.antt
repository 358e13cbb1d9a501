use Rattle.std.proofs.Common.{arith, ap, map, filter}
use Rattle.std.proofs.lemmas.Result.{IfOk-weaker}
use Rattle.mcs_system.specs.Seen.{rule_of}
use Rattle.mcs_trace.specs.Clauses.{ClauseList}
use Rattle.mcs_evidence.specs.Programs.{atoms_as, disjunction}
use Rattle.mcs_evidence.specs.Supports.{may_support, outside_formula, support_formula}
use Rattle.mcs_evidence.proofs.PushingLemmas.{occ_implies, occ_unit}
use Rattle.mcs_evidence.proofs.support.push_one_support.Goals as goal

pub returns : goal.returns
returns c =
    let names = c.args.atoms.now in
    let u = c.args.set.now in
    let rules = map rule_of c.args.rules.now in
    let start = c.args.cnf.now in
    let both = occ_implies names (disjunction (atoms_as u)) (disjunction (map (outside_formula u) (filter (may_support u) rules))) start c.push_either.new.cnf c.push_supports.new.cnf c.push_implies.new.cnf c.in_ok-x.x c.in_ok-y.y c.in_ok-n.n
    c.in_ok-x.ensures.occurs c.in_ok-y.ensures.occurs c.in_ok-n.ensures.ok in
    IfOk-weaker c.push_unit.result _ _ (λ _ unit. record { grows = omega (arith, c.in_ok-x.ensures.grows, c.in_ok-y.ensures.grows, ap (λ (k : ClauseList). k.vars) c.in_ok-n.ensures.ok.1, ap (λ (k : ClauseList). k.vars) unit); pushed = occ_unit names (support_formula rules u) start c.push_implies.new.cnf c.push_unit.new.cnf c.in_ok-n.n both unit }) c.push_unit.ensures.ok
