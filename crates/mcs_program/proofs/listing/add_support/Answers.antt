use Rattle.std.proofs.Common.{◌≡◌, ◌∙◌, [], ◌∷◌, ap, map}
use Rattle.std.proofs.lemmas.Result.{IfOk-weaker}
use Rattle.mcs_system.specs.Seen.{rule_of}
use Rattle.mcs_trace.specs.Clauses.{ClauseList}
use Rattle.mcs_cnf.specs.ClauseLists.{with_formulas}
use Rattle.mcs_evidence.specs.Supports.{support_formula}
use Rattle.mcs_evidence.proofs.Supports.{support-over}
use Rattle.mcs_classical.proofs.RefutingLemmas.{formulas_apart, none_apart}
use Rattle.mcs_meant.proofs.MeaningLemmas.{adds_formula}
use Rattle.mcs_program.proofs.listing.add_support.Goals as goal

pub returns : goal.returns
returns c =
    let names = c.args.program.now.atoms.now in
    let rules = map rule_of c.args.program.now.rules.now in
    let f = support_formula rules c.args.set.now in
    let known : ClauseList = c.args.known.now in
    let empty : ClauseList = record { vars = known.vars; clauses = [] } in
    let made : c.push_support.new.cnf ≡ with_formulas names empty (f ∷ []) = c.in_ok-push_support.ensures.pushed ∙ ap (λ (g : ClauseList). with_formulas names g (f ∷ [])) (none_apart known c.new-more.result c.vars.result c.vars.ensures.value c.new-more.ensures) in
    IfOk-weaker c.add_to.result _ _ (λ _ e. adds_formula names f known c.add_to.new.known c.vars.ensures.kept (support-over names rules c.args.set.now c.args.program.now.rules_over c.requires.over)
    (formulas_apart names (f ∷ []) known c.push_support.new.cnf c.add_to.new.known made e)) c.add_to.ensures
