use Rattle.std.proofs.lemmas.Result.{IfOk-weaker}
use Rattle.mcs_extensions.proofs.verdict.judge.Goals as goal

pub returns-clause-exact : goal.returns-clause-exact
returns-clause-exact c = IfOk-weaker c.judge_generated.result _ _ (λ judged told. told (c.in_ok-ready.ensures.exact.0 c.if-not-ready.false)) c.judge_generated.ensures.exact
