use Rattle.std.proofs.Common.{List, IfSome, refl}
use Rattle.mcs_system.specs.Plain.{Formula}
use Rattle.mcs_system.specs.Seen.{formula_of}
use Rattle.mcs_trace.specs.declared.certificate.Entail.TheVariants as entail
use Rattle.mcs_cnf.specs.Entailments.{entailment_of, IsModelAt, IsAcceptedEntailment}
use Rattle.mcs_cnf.proofs.EntailmentLemmas.{sound}
use Rattle.mcs_classical.proofs.ModelLemmas.{refuted_beside}
use Rattle.mcs_classical.proofs.consequence.entails_beside.Goals as goal

pub returns-in-Some : goal.returns-in-Some
returns-in-Some c =
    let names = c.args.given.now.asked.now.atoms.now in
    let g = formula_of c.args.goal.now in
    let accepted : (fs : List Formula) → IfSome c.args.model.now (IsModelAt names fs) → IsAcceptedEntailment names fs g (entailment_of (entail.No c.number.result)) =
    λ fs known. refuted_beside names fs g c.args.model.now c.in-Some.places c.number.result c.in-Some.ensures.0 c.in-Some.ensures.1 c.number.ensures known in
    record {
      kept = refl;
      accepted = λ fs is over known. accepted fs known;
      exact = λ fs is over known. sound fs g names (entailment_of (entail.No c.number.result)) over c.requires.goal (accepted fs known);
    }
