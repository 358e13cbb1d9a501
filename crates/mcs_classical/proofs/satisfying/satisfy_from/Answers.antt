use Rattle.std.proofs.Common.{subst}
use Rattle.mcs_trace.specs.Clauses.{ClauseList}
use Rattle.mcs_trace.specs.Traces.{IsAcceptedTrace, inferences_of}
use Rattle.mcs_sat.specs.declared.outcome.Outcome.{Outcome}
use Rattle.mcs_sat.specs.Answers.{IsSatAnswer}
use Rattle.mcs_cnf.specs.ClauseLists.{clause_list}
use Rattle.mcs_cnf.proofs.EntailmentLemmas.{none_hold}
use Rattle.mcs_classical.proofs.RefutingLemmas.{modelled, modelled_clauses}
use Rattle.mcs_classical.proofs.satisfying.satisfy_from.Goals as goal

pub returns-in-Refuted : goal.returns-in-Refuted
returns-in-Refuted c = λ fs is over.
    let answer : IsSatAnswer c.args.cnf.now (Outcome.Refuted c.in-Refuted.trace) = subst (IsSatAnswer c.args.cnf.now) c.in-Refuted.is c.in_ok-trace.ensures.answer in
    let accepted : IsAcceptedTrace (clause_list c.args.atoms.now fs).clauses (inferences_of c.in-Refuted.trace) = subst (λ (x : ClauseList). IsAcceptedTrace x.clauses (inferences_of c.in-Refuted.trace)) is answer in
    (accepted, none_hold c.args.atoms.now fs (inferences_of c.in-Refuted.trace) over accepted)

pub returns-in-Model : goal.returns-in-Model
returns-in-Model c = λ fs is over.
    let answer : IsSatAnswer c.args.cnf.now (Outcome.Model c.in-Model.values) = subst (IsSatAnswer c.args.cnf.now) c.in-Model.is c.in_ok-trace.ensures.answer in
    modelled c.args.atoms.now fs c.in-Model.values.items c.deref.result.now c.true_places.result c.requires.different (modelled_clauses c.args.atoms.now fs c.args.cnf.now c.in-Model.values.items over is answer.1) c.deref.ensures.value c.true_places.ensures
