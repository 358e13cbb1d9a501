use Rattle.std.proofs.Common.{sym, List, subst}
use Rattle.std.specs.List.{AllByRecursion}
use Rattle.mcs_proof_writer.specs.Gathered.{answers_of, KeepsCertificate}
use Rattle.mcs_proof_writer.specs.declared.asking.Question.{Question}
use Rattle.mcs_proof_writer.proofs.GatheringLemmas.{questions_kept, lent_prove}
use Rattle.mcs_proof_writer.proofs.WritingLemmas.{proof_writable, proved}
use Rattle.mcs_proof_writer.proofs.proving.write_proof.Goals as goal

pub gathered-requires : goal.gathered-requires
gathered-requires g c =
    let (level, asked) = c.requires in
    subst (λ (qs : List Question). AllByRecursion (KeepsCertificate c.args.solvers.now) qs) (sym c.deref.ensures.value)
    (questions_kept c.args.system.now level c.args.solvers.now asked c.in_ok-questions.questions.items c.in_ok-questions.ensures)

pub write_marked-requires : goal.write_marked-requires
write_marked-requires g c =
    let (level, asked) = c.requires in
    proof_writable c.args.system.now level (answers_of c.deref-2.result.now)
    (lent_prove c.args.system.now level c.args.solvers.now asked c.in_ok-questions.questions.items c.deref.result.now c.in_ok-answers.answers.items c.deref-2.result.now c.deref.ensures.value c.deref-2.ensures.value c.in_ok-questions.ensures c.in_ok-answers.ensures)

pub returns : goal.returns
returns g c = λ level asked.
    proved c.args.system.now level (answers_of c.deref-2.result.now) _ _ _
    (lent_prove c.args.system.now level c.args.solvers.now asked c.in_ok-questions.questions.items c.deref.result.now c.in_ok-answers.answers.items c.deref-2.result.now c.deref.ensures.value c.deref-2.ensures.value c.in_ok-questions.ensures c.in_ok-answers.ensures)
    c.write_marked.ensures
