use Rattle.std.proofs.Common.{[], ◌∷◌, refl, subst}
use Rattle.mcs_system.specs.Plain.{Not}
use Rattle.mcs_system.specs.Seen.{formula_of}
use Rattle.mcs_trace.specs.Clauses.{ClauseList}
use Rattle.mcs_trace.specs.Traces.{IsAcceptedTrace}
use Rattle.mcs_cnf.proofs.GrowingLemmas.{cut_fewer, cut_within, grown_clauses}
use Rattle.mcs_proof_lines.specs.Walks.{trace_at}
use Rattle.mcs_steps.specs.Judging.{Judges}
use Rattle.mcs_judging.proofs.entailments.judge_refutation.Goals as goal

pub cut-requires-clause-fewer : goal.cut-requires-clause-fewer
cut-requires-clause-fewer c =
    cut_fewer c.args.atoms.now c.args.known.now c.push_negation.new.cnf ((Not (formula_of c.args.goal.now) ∷ []), c.in_ok-push_negation.ensures.ok) c.push_negation.new.cnf c.vars-vars.result c.vars-vars.ensures.value refl

pub cut-requires-clause-within : goal.cut-requires-clause-within
cut-requires-clause-within c =
    cut_within c.args.atoms.now c.args.known.now c.push_negation.new.cnf ((Not (formula_of c.args.goal.now) ∷ []), c.in_ok-push_negation.ensures.ok) c.push_negation.new.cnf c.vars-vars.result c.clauses-count.result.now
    c.vars-vars.ensures.value c.clauses-count.ensures.value c.vars-vars.ensures.kept refl

pub returns-clause-exact : goal.returns-clause-exact
returns-clause-exact c = λ fs is.
    subst (λ (x : ClauseList). Judges (IsAcceptedTrace x.clauses) c.judge_trace-right.result c.judge_trace-right.new.lines (trace_at c.args.lines.now))
    (grown_clauses c.args.atoms.now c.args.known.now c.push_negation.new.cnf ((Not (formula_of c.args.goal.now) ∷ []), c.in_ok-push_negation.ensures.ok) fs is) c.judge_trace-right.ensures
