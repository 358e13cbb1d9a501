use Rattle.std.proofs.Common.{◌≡◌, true, [], ◌∷◌, refl, ◌↔◌, subst}
use Rattle.std.proofs.lemmas.Result.{IfOk-weaker}
use Rattle.mcs_system.specs.Plain.{Not}
use Rattle.mcs_system.specs.Seen.{formula_of}
use Rattle.mcs_trace.specs.Clauses.{ClauseList}
use Rattle.mcs_trace.specs.Traces.{inferences_of, IsAcceptedTrace}
use Rattle.mcs_cnf.proofs.GrowingLemmas.{cut_fewer, cut_within, grown_clauses}
use Rattle.mcs_entailment.proofs.entailment.is_refuted_by.Goals as goal

pub cut-requires-clause-fewer : goal.cut-requires-clause-fewer
cut-requires-clause-fewer c =
    cut_fewer c.args.atoms.now c.args.known.now c.push_negation.new.cnf ((Not (formula_of c.args.goal.now) ∷ []), c.in_ok-push_negation.ensures.ok) c.push_negation.new.cnf c.vars-vars.result c.vars-vars.ensures.value refl

pub cut-requires-clause-within : goal.cut-requires-clause-within
cut-requires-clause-within c =
    cut_within c.args.atoms.now c.args.known.now c.push_negation.new.cnf ((Not (formula_of c.args.goal.now) ∷ []), c.in_ok-push_negation.ensures.ok) c.push_negation.new.cnf c.vars-vars.result c.clauses-count.result.now
    c.vars-vars.ensures.value c.clauses-count.ensures.value c.vars-vars.ensures.kept refl

pub returns-clause-exact : goal.returns-clause-exact
returns-clause-exact c =
    IfOk-weaker c.check-right.result _ _ (λ yes accepted fs is.
    subst (λ (x : ClauseList). (yes ≡ true) ↔ IsAcceptedTrace x.clauses (inferences_of c.args.trace.now))
    (grown_clauses c.args.atoms.now c.args.known.now c.push_negation.new.cnf ((Not (formula_of c.args.goal.now) ∷ []), c.in_ok-push_negation.ensures.ok) fs is) accepted) c.check-right.ensures.accepted
