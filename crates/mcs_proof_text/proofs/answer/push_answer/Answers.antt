use Rattle.std.proofs.Common.{◌∙◌, map}
use Rattle.std.proofs.lemmas.Result.{on_ok_weaker}
use Rattle.mcs_system.specs.Atoms.{atoms_of}
use Rattle.mcs_asking.specs.Certificates.{plain_of}
use Rattle.mcs_proof_text.specs.Lines.{question_text, output_text}
use Rattle.mcs_proof_text.specs.Answers.{certificate_lines}
use Rattle.mcs_proof_text.proofs.LineLemmas.{answer_parts}
use Rattle.mcs_proof_text.proofs.answer.push_answer.Goals as goal

pub returns : goal.returns
returns c =
    let m = c.args.system.now in
    on_ok_weaker c.push.result
    (λ e. e ∙ rw (c.in_ok-push_certificate.ensures, c.atoms_of.ensures.value, c.in_ok-push_outputs.ensures, c.in_ok-push_question.ensures)
    (answer_parts c.args.text.now (question_text m c.args.context c.args.active) (map (output_text m) c.args.outputs.now) (atoms_of m c.args.context) (certificate_lines (plain_of c.args.cert.now)))) c.push.ensures.ok
