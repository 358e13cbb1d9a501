use Rattle.std.proofs.Common.{rules}
use Rattle.mcs_tokens.proofs.scan.gap_end.Goals as goal

pub loop-i-preserved : goal.loop-i-preserved
loop-i-preserved c = search rules
