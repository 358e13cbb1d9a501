use Rattle.mcs_proof_writer.specs.Gathered.{answers_of}
use Rattle.mcs_proof_writer.proofs.WritingLemmas.{marked_unbegun, marked_cut, marked}
use Rattle.mcs_proof_writer.proofs.writing.write_marked.Goals as goal

pub returns-in_err-write_piece : goal.returns-in_err-write_piece
returns-in_err-write_piece g c = marked_unbegun c.args.system.now (answers_of c.args.answers.now) _ _ _ _ c.from_residual.ensures.1 c.in_err-write_piece.ensures

pub returns-in_err-write_answers : goal.returns-in_err-write_answers
returns-in_err-write_answers g c = marked_cut c.args.system.now (answers_of c.args.answers.now) _ _ _ _ _ _ c.in_ok-write_piece.ensures c.from_residual-in_err-write_answers.ensures.1 c.in_err-write_answers.ensures

pub returns : goal.returns
returns g c = marked c.args.system.now (answers_of c.args.answers.now) _ _ _ _ _ _ _ c.in_ok-write_piece.ensures c.in_ok-write_answers.ensures c.write_piece-2.ensures
