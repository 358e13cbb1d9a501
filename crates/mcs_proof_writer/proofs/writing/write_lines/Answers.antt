use Rattle.std.proofs.Common.{arith}
use Rattle.mcs_text.proofs.WriteLaws.{goes_on, goes_cut}
use Rattle.mcs_proof_writer.proofs.writing.write_lines.Goals as goal

pub returns-in_err-write_piece : goal.returns-in_err-write_piece
returns-in_err-write_piece g c = goes_cut _ _ _ _ _ _ _ _ _ c.loop-end.invariant.goes c.split_at.ensures.by_index.0 c.from_residual.ensures.1 c.in_err-write_piece.ensures

pub loop-end-preserved : goal.loop-end-preserved
loop-end-preserved g c = record {
  goes = goes_on _ _ _ _ _ _ _ _ c.loop-end.invariant.goes c.split_at.ensures.by_index.0 c.in_ok-write_piece.ensures;
  short = omega (arith, c.loop-end.invariant.short, c.split_at.ensures.back_len);
}
