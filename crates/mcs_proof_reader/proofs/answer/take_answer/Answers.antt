use Rattle.std.proofs.Common.{◌≡◌, Option, Some, get_or, slice_get, ap, ◌∙◌, refl}
use Rattle.mcs_system.specs.Plain.{Context, System}
use Rattle.mcs_system.specs.Seen.{context_of}
use Rattle.mcs_asking.proofs.KindItems.{few_parts}
use Rattle.mcs_asking.proofs.AskingLemmas.{context_there}
use Rattle.mcs_proof_reader.specs.Answers.{shown_of}
use Rattle.mcs_proof_reader.specs.Readers.{shown_of_code}
use Rattle.mcs_proof_reader.proofs.AnswerSteps.{shown_err}
use Rattle.mcs_proof_reader.proofs.answer.take_answer.Goals as goal

pub take_shown-requires-clause-few : goal.take_shown-requires-clause-few
take_shown-requires-clause-few c =
    let m : System = c.args.system.now in
    few_parts m c.requires.texts.valid c.args.question.0 _ (context_there m c.contexts.result.now c.args.question.0 c.index-contexts-context.result c.contexts.ensures.value c.requires.context)

pub returns-in_err-outputs : goal.returns-in_err-outputs
returns-in_err-outputs c =
    let m : System = c.args.system.now in
    let i = c.args.question.0 in
    let d : Context = context_of (get_or c.contexts.result.now i c.index-contexts-context.result) in
    let there : slice_get m.contexts i ≡ Some d = context_there m c.contexts.result.now i c.index-contexts-context.result c.contexts.ensures.value c.requires.context in
    shown_err _ m c.args.question c.args.line d there _ _ c.args.lines.now _ c.from_residual.ensures.1 c.in_err-outputs.ensures

pub returns : goal.returns
returns c =
    let m : System = c.args.system.now in
    let i = c.args.question.0 in
    let d : Context = context_of (get_or c.contexts.result.now i c.index-contexts-context.result) in
    let there : slice_get m.contexts i ≡ Some d = context_there m c.contexts.result.now i c.index-contexts-context.result c.contexts.ensures.value c.requires.context in
    record {
      shown = shown_of_code c.in_ok-outputs.field-0;
      is = ap (λ (o : Option Context). shown_of m i o c.args.lines.now) there ∙ c.in_ok-outputs.ensures;
      keeps_it = record { answer = refl; begins = refl };
    }
