use Rattle.std.proofs.Common.{sym, subst}
use Rattle.std.proofs.lemmas.Result.{IfOk-weaker}
use Rattle.mcs_grounding.specs.Asked.{AreItemsOf}
use Rattle.mcs_default.specs.declared.findings.Findings as findings
use Rattle.mcs_default.proofs.listing.list_lent.Goals as goal

pub returns-clause-exact : goal.returns-clause-exact
returns-clause-exact c = IfOk-weaker c.list_all-views.result _ _ (λ views told items parts.
    told items (subst (λ (f : findings.Findings). AreItemsOf c.args.theory.now f.facts items) (sym c.replace.ensures.value) parts)) c.list_all-views.ensures.exact
