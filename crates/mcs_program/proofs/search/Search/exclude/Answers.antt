use Rattle.std.proofs.Common.{◌≡◌, ◌∙◌, [], ◌∷◌, ap, refl, map}
use Rattle.mcs_system.specs.Seen.{rule_of}
use Rattle.mcs_trace.specs.Clauses.{ClauseList}
use Rattle.mcs_cnf.specs.ClauseLists.{with_formulas}
use Rattle.mcs_evidence.specs.Programs.{beside_formula}
use Rattle.mcs_evidence.proofs.Models.{beside-over}
use Rattle.mcs_classical.proofs.RefutingLemmas.{formulas_apart, none_apart}
use Rattle.mcs_meant.proofs.MeaningLemmas.{adds_formula}
use Rattle.mcs_program.proofs.search.Search.exclude.Goals as goal

pub returns : goal.returns
returns c =
    let names = c.args.program.now.atoms.now in
    let rules = map rule_of c.args.program.now.rules.now in
    let f = beside_formula names rules c.args.less in
    let known : ClauseList = c.args.self.now.known in
    let empty : ClauseList = record { vars = known.vars; clauses = [] } in
    let made : c.push_beside.new.cnf ≡ with_formulas names empty (f ∷ []) = c.in_ok-push_beside.ensures.pushed ∙ ap (λ (g : ClauseList). with_formulas names g (f ∷ [])) (none_apart known c.new-more.result c.vars.result c.vars.ensures.value c.new-more.ensures) in
    record {
      known = adds_formula names f known c.add_to.new.known c.vars.ensures.kept (beside-over names rules c.args.less c.args.program.now.rules_over) (formulas_apart names (f ∷ []) known c.push_beside.new.cnf c.add_to.new.known made c.in_ok-add_to.ensures);
      smaller = c.in_ok-push.ensures.items;
      views = refl;
      models = refl;
    }
