use Rattle.std.proofs.Common.{refl}
use Rattle.mcs_text.proofs.WriteLaws.{writes_fault}
use Rattle.mcs_proof_writer.proofs.writing.write_piece.Goals as goal

pub returns-in-Err : goal.returns-in-Err
returns-in-Err g c = writes_fault _ _ _ _ refl c.in-Err.ensures.cause.failed c.in-Err.ensures.cause.later c.in-Err.ensures.notes c.in-Err.ensures.prefix
