use Rattle.std.proofs.Common.{map, drop, ◌+◌, ◌∷◌, sym, ap, ◌∙◌, arith}
use Rattle.std.proofs.lemmas.List.{drop_all, drop_more}
use Rattle.mcs_system.specs.Seen.{read_of}
use Rattle.mcs_script.proofs.FoundLemmas.{goes_on, finds_nothing}
use Rattle.mcs_script.proofs.found.find_reads.Goals as goal

pub loop-read-preserved : goal.loop-read-preserved
loop-read-preserved c = goes_on _ _ _ _ _ _ _ c.loop-read.invariant
    (ap (map read_of) (drop_more c.args.reads.now c.loop-read.read-index c.read-item.result c.loop-read-test.true) ∙ ap (λ r. read_of r ∷ map read_of (drop (c.loop-read.read-index + 1) c.args.reads.now)) (sym c.read-item.is)) c.in_ok-find_read.ensures

pub returns : goal.returns
returns c =
    let none = drop_all c.loop-read.read-index c.args.reads.now (omega arith) in
    c.loop-read.invariant _ (rw none (finds_nothing _))
