use Rattle.std.proofs.Common.{map, drop, ◌+◌, ◌∷◌, sym, ap, ◌∙◌, arith}
use Rattle.std.proofs.lemmas.List.{drop_all, drop_more}
use Rattle.mcs_system.specs.Seen.{bridge_of}
use Rattle.mcs_script.proofs.ShareLemmas.{goes_on_by, finds_none_by}
use Rattle.mcs_script.proofs.share.find_all.Goals as goal

pub loop-rule-preserved : goal.loop-rule-preserved
loop-rule-preserved c = goes_on_by _ _ _ _ _ _ _ _ c.loop-rule.invariant
    (ap (map bridge_of) (drop_more c.args.rules.now c.loop-rule.rule-index c.rule-item.result c.loop-rule-test.true) ∙ ap (λ r. bridge_of r ∷ map bridge_of (drop (c.loop-rule.rule-index + 1) c.args.rules.now)) (sym c.rule-item.is)) c.in_ok-find_more.ensures

pub returns : goal.returns
returns c =
    let none = drop_all c.loop-rule.rule-index c.args.rules.now (omega arith) in
    c.loop-rule.invariant _ (rw none (finds_none_by _ _))
