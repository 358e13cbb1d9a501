use Rattle.std.proofs.Common.{subst, Some, None}
use Rattle.mcs_sat.specs.Answers.{IsSettledAnswer}
use Rattle.mcs_classical.proofs.RefutingLemmas.{modelled}
use Rattle.mcs_program.proofs.answer.find_model.Goals as goal

pub returns-in-None-clause-found : goal.returns-in-None-clause-found
returns-in-None-clause-found c = λ fs m a h.
    let none : IsSettledAnswer c.args.known.now None = subst (IsSettledAnswer c.args.known.now) c.in-None.is c.in_ok-values.ensures.exact in
    let (v, e, all) = m.extends a h in none v all

pub returns-in-Some-clause-found : goal.returns-in-Some-clause-found
returns-in-Some-clause-found c = λ fs m.
    let answer : IsSettledAnswer c.args.known.now (Some c.in-Some.values) = subst (IsSettledAnswer c.args.known.now) c.in-Some.is c.in_ok-values.ensures.exact in
    modelled c.args.program.now.atoms.now fs c.in-Some.values.items c.deref.result.now c.true_places.result c.args.program.now.different (λ a e. m.satisfied a _ e answer.1) c.deref.ensures.value c.true_places.ensures
