use Rattle.std.proofs.Common.{◌∙◌, [], ◌∷◌, ap}
use Rattle.mcs_system.specs.Seen.{default_of}
use Rattle.mcs_trace.specs.Clauses.{ClauseList}
use Rattle.mcs_cnf.specs.ClauseLists.{with_formulas}
use Rattle.mcs_steps.proofs.Judged.{judged_err}
use Rattle.mcs_judging.proofs.order.judge_prerequisite.Goals as goal

pub returns-in_err-shown-clause-exact : goal.returns-in_err-shown-clause-exact
returns-in_err-shown-clause-exact c = λ fs is. judged_err _ _ _ _ _ c.from_residual.ensures.1 (c.in_err-shown.ensures.exact fs is)

pub returns-clause-pushed : goal.returns-clause-pushed
returns-clause-pushed c = c.in_ok-push_formula.ensures.ok ∙ ap (λ (x : ClauseList). with_formulas c.args.atoms.now x ((default_of c.args.default.now).conclusion ∷ [])) c.in_ok-shown.ensures.kept

pub returns-clause-exact : goal.returns-clause-exact
returns-clause-exact c = c.in_ok-shown.ensures.exact
