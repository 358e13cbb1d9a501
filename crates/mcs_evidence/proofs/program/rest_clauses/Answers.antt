use Rattle.std.proofs.Common.{◌∙◌, ap, map}
use Rattle.mcs_system.specs.Plain.{Atom}
use Rattle.mcs_system.specs.Seen.{rule_of}
use Rattle.mcs_trace.specs.Clauses.{ClauseList}
use Rattle.mcs_cnf.specs.ClauseLists.{with_formulas}
use Rattle.mcs_evidence.specs.Programs.{rule_formula, beside_formula, other_formula, rest_formulas}
use Rattle.mcs_evidence.proofs.ProgramClauses.{three}
use Rattle.mcs_evidence.proofs.program.rest_clauses.Goals as goal

pub returns : goal.returns
returns c =
    let names = c.args.atoms.now in
    let rules = map rule_of c.args.rules.now in
    let beliefs = map Atom (map (λ b. b.now) c.args.beliefs.now) in
    three names c.new-cnf.result c.push_rules.new.cnf c.push_besides.new.cnf c.push_others.new.cnf (map rule_formula rules) (map (beside_formula names rules) c.args.smaller.now) (map (other_formula beliefs) c.args.states.now)
    c.in_ok-push_rules.ensures.pushed c.in_ok-push_besides.ensures.pushed c.in_ok-push_others.ensures.pushed
    ∙ ap (λ (k : ClauseList). with_formulas names k (rest_formulas names rules beliefs c.args.smaller.now c.args.states.now)) c.new-cnf.ensures
