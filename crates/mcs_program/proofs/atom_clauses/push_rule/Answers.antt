use Rattle.std.proofs.Common.{◌∙◌, ap, sym, subst}
use Rattle.std.proofs.lemmas.Result.{IfOk-weaker}
use Rattle.std.specs.List.{AllByRecursion}
use Rattle.mcs_system.specs.Seen.{rule_of}
use Rattle.mcs_cnf.specs.ClauseLists.{with_clause, IsThere}
use Rattle.mcs_evidence.specs.Programs.{rule_formula}
use Rattle.mcs_program.specs.Clauses.{rule_literals}
use Rattle.mcs_meant.proofs.MeaningLemmas.{adds_clause}
use Rattle.mcs_program.proofs.ClauseLemmas.{rule_says, rule_there}
use Rattle.mcs_program.proofs.atom_clauses.push_rule.Goals as goal

pub push_clause-requires : goal.push_clause-requires
push_clause-requires c =
    subst (AllByRecursion (IsThere c.args.cnf.now)) (sym (c.deref.ensures.value ∙ c.in_ok-literals.ensures)) (rule_there c.args.program.now.atoms.now c.args.cnf.now (rule_of c.args.rule.now) c.requires.room c.requires.over)

pub returns : goal.returns
returns c =
    let names = c.args.program.now.atoms.now in
    let r = rule_of c.args.rule.now in
    IfOk-weaker c.push_clause.result _ _ (λ _ e. adds_clause names (rule_formula r) (rule_literals names r) c.args.cnf.now c.push_clause.new.cnf (e ∙ ap (with_clause c.args.cnf.now) (c.deref.ensures.value ∙ c.in_ok-literals.ensures))
    (λ a v extends. rule_says v names a extends r c.requires.over)) c.push_clause.ensures.ok
