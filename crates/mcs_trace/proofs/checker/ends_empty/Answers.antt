use Rattle.std.proofs.Common.{sym, arith}
use Rattle.std.proofs.lemmas.Grind.{common_steps}
use Rattle.mcs_trace.proofs.TraceLemmas.{ends-last}
use Rattle.mcs_trace.proofs.checker.ends_empty.Goals as goal

pub returns-in-Some : goal.returns-in-Some
returns-in-Some c =
    let ends = ends-last c.args.steps.now c.in-Some.step.now (sym c.in-Some.ensures.value) in
    (λ e. ends.1 (c.is_empty.ensures.0 e), λ h. c.is_empty.ensures.1 (ends.0 h))

pub returns-in-None : goal.returns-in-None
returns-in-None c = grind (arith, common_steps)
