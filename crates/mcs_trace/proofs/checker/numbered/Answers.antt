use Rattle.std.proofs.Common.{Some, sym, ap, ◌∙◌, arith}
use Rattle.mcs_trace.specs.declared.trace.Step.{Step}
use Rattle.mcs_trace.proofs.TraceLemmas.{numbered-step, numbered-none}
use Rattle.mcs_trace.proofs.checker.numbered.Goals as goal

pub returns-then-later-steps : goal.returns-then-later-steps
returns-then-later-steps c =
    ap (λ (s : Step). Some s.clause) (sym c.index-steps-later.is)
    ∙ numbered-step c.args.clauses.now c.args.steps.now c.args.number c.index-steps-later.result (omega arith) (omega arith) c.if-later-steps.true c.index-steps-later.is

pub returns : goal.returns
returns c = numbered-none c.args.clauses.now c.args.steps.now c.args.number (omega arith) (omega arith) c.if-later-steps.false
