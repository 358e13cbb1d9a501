use Rattle.std.proofs.Common.{◌∙◌, List, ℤ, subst, sym}
use Rattle.std.specs.List.{AllByRecursion}
use Rattle.mcs_trace.specs.Clauses.{IsClause}
use Rattle.mcs_trace.specs.Traces.{IsAcceptedTrace, inferences_of}
use Rattle.mcs_trace.proofs.TraceLemmas.{refutes}
use Rattle.mcs_sat.specs.Answers.{assignment_of}
use Rattle.mcs_search.specs.Searches.{IsEnd}
use Rattle.mcs_engine.specs.Stores.{given}
use Rattle.mcs_engine.specs.Trails.{IsClauseSatisfied}
use Rattle.mcs_sat.proofs.ModelLemmas.{all-on}
use Rattle.mcs_engine.proofs.StoreLemmas.{given-all, later-count, later-given}
use Rattle.mcs_sat.proofs.solving.outcome_of.Goals as goal

pub returns-in_ok-model_of-in-None-clause-answer : goal.returns-in_ok-model_of-in-None-clause-answer
returns-in_ok-model_of-in-None-clause-answer c =
    let old = c.args.state.now in
    let s = c.search.new.state in
    let es = s.trail.entries.items in
    let end : AllByRecursion (IsClauseSatisfied es) s.clauses = subst (IsEnd s) c.in-None.is c.in_ok-search.ensures.end in
    let same = later-given old s c.requires.base.state c.search.ensures.later in
    let all : AllByRecursion (IsClauseSatisfied es) (given old.clauses old.chains) = subst (AllByRecursion (IsClauseSatisfied es)) same (given-all (IsClauseSatisfied es) s.clauses s.chains end) in
    let model = c.in_ok-model_of-in-None in
    (model.ensures.len, all-on es s.trail.positions.items (assignment_of model.field-0.items) c.args.vars s.trail.placed model.ensures.values (given old.clauses old.chains) c.requires.base.within all)

pub returns-in_ok-model_of-in-None-clause-exact : goal.returns-in_ok-model_of-in-None-clause-exact
returns-in_ok-model_of-in-None-clause-exact c = λ none. none (assignment_of c.in_ok-model_of-in-None.field-0.items) (returns-in_ok-model_of-in-None-clause-answer c).1

pub returns-in_ok-trace_of-in-Some-clause-answer : goal.returns-in_ok-trace_of-in-Some-clause-answer
returns-in_ok-trace_of-in-Some-clause-answer c =
    subst (λ (cs : List (List ℤ)). IsAcceptedTrace cs (inferences_of c.in_ok-trace_of-in-Some.field-0)) (later-given c.args.state.now c.search.new.state c.requires.base.state c.search.ensures.later) c.in_ok-trace_of-in-Some.ensures

pub returns-in_ok-trace_of-in-Some-clause-exact : goal.returns-in_ok-trace_of-in-Some-clause-exact
returns-in_ok-trace_of-in-Some-clause-exact c =
    let old = c.args.state.now in
    refutes (given old.clauses old.chains) (inferences_of c.in_ok-trace_of-in-Some.field-0) (given-all IsClause old.clauses old.chains c.requires.base.state.trail.clauses) (returns-in_ok-trace_of-in-Some-clause-answer c)

pub trace_of-requires-clause-count : goal.trace_of-requires-clause-count
trace_of-requires-clause-count c = c.requires.count ∙ sym (later-count c.args.state.now c.search.new.state c.search.ensures.later)
