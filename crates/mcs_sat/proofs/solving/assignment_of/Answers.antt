use Rattle.std.proofs.Common.{subst}
use Rattle.std.specs.List.{AllByRecursion}
use Rattle.mcs_trace.specs.Clauses.{IsUnsatisfiable}
use Rattle.mcs_sat.specs.Answers.{assignment_of}
use Rattle.mcs_search.specs.Searches.{IsEnd}
use Rattle.mcs_engine.specs.Stores.{given}
use Rattle.mcs_engine.specs.Trails.{IsClauseSatisfied}
use Rattle.mcs_sat.proofs.FollowLemmas.{refuted-given}
use Rattle.mcs_sat.proofs.ModelLemmas.{all-on}
use Rattle.mcs_engine.proofs.StoreLemmas.{given-all, later-given}
use Rattle.mcs_sat.proofs.solving.assignment_of.Goals as goal

pub returns-in_ok-model_of-in-None-clause-exact : goal.returns-in_ok-model_of-in-None-clause-exact
returns-in_ok-model_of-in-None-clause-exact c =
    let old = c.args.state.now in
    let s = c.search.new.state in
    let es = s.trail.entries.items in
    let end : AllByRecursion (IsClauseSatisfied es) s.clauses = subst (IsEnd s) c.in-None.is c.in_ok-search.ensures.end in
    let same = later-given old s c.requires.state c.search.ensures.later in
    let all : AllByRecursion (IsClauseSatisfied es) (given old.clauses old.chains) = subst (AllByRecursion (IsClauseSatisfied es)) same (given-all (IsClauseSatisfied es) s.clauses s.chains end) in
    let model = c.in_ok-model_of-in-None in
    (model.ensures.len, all-on es s.trail.positions.items (assignment_of model.field-0.items) c.args.vars s.trail.placed model.ensures.values (given old.clauses old.chains) c.requires.within all)

pub returns-in-Some-clause-exact : goal.returns-in-Some-clause-exact
returns-in-Some-clause-exact c =
    let s = c.search.new.state in
    let (off, base) = subst (IsEnd s) c.in-Some.is c.in_ok-search.ensures.end in
    subst IsUnsatisfiable (later-given c.args.state.now s c.requires.state c.search.ensures.later) (refuted-given s c.in-Some._index c.search.ensures.later.state base off)
