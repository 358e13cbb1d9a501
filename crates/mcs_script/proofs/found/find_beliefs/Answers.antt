use Rattle.std.proofs.Common.{arith}
use Rattle.std.proofs.lemmas.List.{drop_all}
use Rattle.mcs_system.specs.Gathered.{belief_atoms}
use Rattle.mcs_system.specs.Seen.{read_of}
use Rattle.mcs_base.proofs.Ranges.{next_seen}
use Rattle.mcs_script.proofs.FoundLemmas.{goes_on, finds_nothing}
use Rattle.mcs_script.proofs.found.find_beliefs.Goals as goal

pub loop-read-preserved : goal.loop-read-preserved
loop-read-preserved c = goes_on _ _ _ _ _ _ _ c.loop-read.invariant
    (next_seen read_of (belief_atoms c.args.context) c.args.reads.now c.loop-read.read-index c.read-item.result c.loop-read-test.true c.read-item.is) c.in_ok-find_belief.ensures

pub returns : goal.returns
returns c =
    let none = drop_all c.loop-read.read-index c.args.reads.now (omega arith) in
    c.loop-read.invariant _ (rw none (finds_nothing _))
