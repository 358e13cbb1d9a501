use Rattle.std.proofs.Common.{arith}
use Rattle.std.proofs.lemmas.List.{drop_all}
use Rattle.mcs_system.specs.Faults.{reads_of}
use Rattle.mcs_system.specs.Seen.{bridge_of}
use Rattle.mcs_base.proofs.Ranges.{next_seen}
use Rattle.mcs_script.proofs.FoundLemmas.{goes_on, finds_nothing}
use Rattle.mcs_script.proofs.share.reads_of.Goals as goal

pub loop-rule-preserved : goal.loop-rule-preserved
loop-rule-preserved c = goes_on _ _ _ _ _ _ _ c.loop-rule.invariant
    (next_seen bridge_of reads_of c.args.rules.now c.loop-rule.rule-index c.rule-item.result c.loop-rule-test.true c.rule-item.is) c.in_ok-find_reads_of.ensures

pub returns : goal.returns
returns c =
    let none = drop_all c.loop-rule.rule-index c.args.rules.now (omega arith) in
    (c.loop-rule.invariant _ (rw none (finds_nothing _))).all
