use Rattle.std.proofs.Common.{arith}
use Rattle.std.proofs.lemmas.List.{drop_all}
use Rattle.mcs_text.proofs.WriteLaws.{goes_on, goes_cut, writes_nothing}
use Rattle.mcs_proof_writer.proofs.WritingLemmas.{answers_text-more, writable_later}
use Rattle.mcs_proof_writer.proofs.writing.write_answers.Goals as goal

pub returns-in_err-write_answer : goal.returns-in_err-write_answer
returns-in_err-write_answer g c = goes_cut _ _ _ _ _ _ _ _ _ c.loop-shown.invariant.goes
    (answers_text-more c.args.system.now c.args.answers.now c.loop-shown.shown-index c.shown-item.result c.loop-shown-test.true c.shown-item.is)
    c.from_residual.ensures.1 c.in_err-write_answer.ensures

pub loop-shown-preserved : goal.loop-shown-preserved
loop-shown-preserved g c = record {
  goes = goes_on _ _ _ _ _ _ _ _ c.loop-shown.invariant.goes
      (answers_text-more c.args.system.now c.args.answers.now c.loop-shown.shown-index c.shown-item.result c.loop-shown-test.true c.shown-item.is)
      c.in_ok-write_answer.ensures;
  writable = (writable_later c.args.system.now c.args.answers.now c.loop-shown.shown-index c.shown-item.result c.loop-shown-test.true c.shown-item.is c.loop-shown.invariant.writable).1;
}

pub returns : goal.returns
returns g c =
    let none = drop_all c.loop-shown.shown-index c.args.answers.now (omega arith) in
    c.loop-shown.invariant.goes _ _ (rw none (writes_nothing _ _))
