use Rattle.std.proofs.Common.{◌↔◌, ℕ, List, IsTrue, get_or, length, refl, ap, sym, ◌∙◌, subst}
use Rattle.mcs_system.specs.Plain.{Context, System}
use Rattle.mcs_system.specs.Seen.{context_of}
use Rattle.mcs_asking.specs.Certificates.{IsAccepted}
use Rattle.mcs_asking.proofs.AskingLemmas.{context_there}
use Rattle.mcs_proof_lines.specs.Walks.{ReturnsReading}
use Rattle.mcs_proof_reader.proofs.AnswerSteps.{taken_err}
use Rattle.mcs_check.specs.Judging.{HasKb}
use Rattle.mcs_proof_reader.specs.Answers.{certificate_of}
use Rattle.mcs_check.proofs.JudgedAnswers.{no_outputs, no_certificate, answer_read}
use Rattle.mcs_check.proofs.judging.JudgeKeep.take.Goals as goal

pub is_shown-requires-clause-kb : goal.is_shown-requires-clause-kb
is_shown-requires-clause-kb c = record {
  context = _;
  is_it = context_there c.args.system.now c.contexts.result.now c.args.question.0 c.index-contexts-context.result c.contexts.ensures.value c.requires.context;
  kb_is = refl;
}

pub returns-in_err-outputs : goal.returns-in_err-outputs
returns-in_err-outputs c =
    let m : System = c.args.system.now in
    let i = c.args.question.0 in
    let d : Context = context_of (get_or c.contexts.result.now i c.index-contexts-context.result) in
    let h : HasKb m i d.kb = record { context = d; is_it = context_there m c.contexts.result.now i c.index-contexts-context.result c.contexts.ensures.value c.requires.context; kb_is = refl } in
    taken_err _ m c.args.question c.args.line _ _ _ _ c.from_residual.ensures.1 (no_outputs m i d.kb h c.args.lines.now _ c.in_err-outputs.ensures)

pub returns-in-Ok : goal.returns-in-Ok
returns-in-Ok c =
    let m : System = c.args.system.now in
    let i = c.args.question.0 in
    let d : Context = context_of (get_or c.contexts.result.now i c.index-contexts-context.result) in
    let h : HasKb m i d.kb = record { context = d; is_it = context_there m c.contexts.result.now i c.index-contexts-context.result c.contexts.ensures.value c.requires.context; kb_is = refl } in
    let outputs : List ℕ = c.in_ok-outputs.outputs.items in
    let same = c.deref.ensures.value in
    let told = c.in-Ok.ensures in record {
      shown = (outputs, told.value);
      is = answer_read m i d.kb h c.args.lines.now outputs c.take_outputs.new.lines c.in_ok-outputs.ensures told.value c.is_shown.new.lines (ap (λ (os : List ℕ). certificate_of m i d.kb (length os) c.take_outputs.new.lines) (sym same) ∙ told.is);
      keeps_it = record {
        begins = refl;
        context = refl;
        active = refl;
        outputs = refl;
        right = subst (λ (os : List ℕ). IsTrue c.in-Ok.is_right ↔ IsAccepted m i c.args.question.1 os told.value) same told.right;
      };
    }

pub returns-in-Err : goal.returns-in-Err
returns-in-Err c =
    let m : System = c.args.system.now in
    let i = c.args.question.0 in
    let d : Context = context_of (get_or c.contexts.result.now i c.index-contexts-context.result) in
    let h : HasKb m i d.kb = record { context = d; is_it = context_there m c.contexts.result.now i c.index-contexts-context.result c.contexts.ensures.value c.requires.context; kb_is = refl } in
    let outputs : List ℕ = c.in_ok-outputs.outputs.items in
    no_certificate m i d.kb h c.args.lines.now outputs c.take_outputs.new.lines c.in_ok-outputs.ensures c.in-Err.fault
    (subst (λ (os : List ℕ). ReturnsReading c.in-Err.fault (certificate_of m i d.kb (length os) c.take_outputs.new.lines)) c.deref.ensures.value c.in-Err.ensures)
