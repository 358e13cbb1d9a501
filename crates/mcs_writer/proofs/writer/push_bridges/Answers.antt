use Rattle.std.proofs.Common.{rules}
use Rattle.mcs_system.proofs.ValidLemmas.{targets_in_range, reads_in_range}
use Rattle.mcs_writer.proofs.writer.push_bridges.Goals as goal

pub loop-bridge-init : goal.loop-bridge-init
loop-bridge-init c = record {
  written = search rules;
  targets = rw c.bridges-bridge-items.ensures.value (targets_in_range c.args.system.now c.bridges-bridge-items.ensures.valid);
  reads = rw c.bridges-bridge-items.ensures.value (reads_in_range c.args.system.now c.bridges-bridge-items.ensures.valid);
}
