use Rattle.std.proofs.Common.{drop, ◌+◌, ◌∷◌, sym, ap, ◌∙◌, arith}
use Rattle.std.proofs.lemmas.List.{drop_all, drop_more}
use Rattle.mcs_script.proofs.FoundLemmas.{goes_on, finds_nothing}
use Rattle.mcs_script.proofs.found.find_names.Goals as goal

pub loop-name-preserved : goal.loop-name-preserved
loop-name-preserved c = goes_on _ _ _ _ _ _ _ c.loop-name.invariant
    (drop_more c.args.names.now c.loop-name.name-index c.name-item.result c.loop-name-test.true ∙ ap (λ n. n ∷ drop (c.loop-name.name-index + 1) c.args.names.now) (sym c.name-item.is)) c.in_ok-find_name.ensures

pub returns : goal.returns
returns c =
    let none = drop_all c.loop-name.name-index c.args.names.now (omega arith) in
    c.loop-name.invariant _ (rw none (finds_nothing _))
