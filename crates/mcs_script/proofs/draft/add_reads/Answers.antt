use Rattle.std.proofs.Common.{map}
use Rattle.mcs_system.specs.Seen.{bridge_of}
use Rattle.mcs_script.proofs.ShareLemmas.{reads_more}
use Rattle.mcs_script.proofs.draft.add_reads.Goals as goal

pub returns-then-len-most : goal.returns-then-len-most
returns-then-len-most c = reads_more (map bridge_of c.args.rules.now) (bridge_of c.args.rule.now) _ _ c.requires c.in_ok-find_reads_of.ensures

pub returns : goal.returns
returns c = rw c.replace.ensures.after (reads_more (map bridge_of c.args.rules.now) (bridge_of c.args.rule.now) _ _ c.in_ok-again.ensures c.in_ok-find_reads_of-2.ensures)
