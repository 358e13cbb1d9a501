use Rattle.std.proofs.Common.{◌↔◌, ◌∙◌, List, subst}
use Rattle.std.proofs.lemmas.List.{take_all}
use Rattle.mcs_base.specs.Listings.{IsAmong}
use Rattle.mcs_rows.specs.Nearest.{IsSupported}
use Rattle.mcs_rows.specs.declared.nearest.Accepted.{Accepted}
use Rattle.mcs_rows.proofs.NearestLemmas.{supported_more}
use Rattle.mcs_rows.proofs.nearest.supported_in.Goals as goal

pub loop-one-preserved : goal.loop-one-preserved
loop-one-preserved c = supported_more c.deref-one-items.result.now c.loop-one.one-index c.one-item.result c.loop-one.all.items c.add_question.new.all.items c.loop-one-test.true c.one-item.is c.loop-one.invariant c.in_ok-add_question.ensures

pub returns : goal.returns
returns c τ x =
    let whole = subst (λ (all : List Accepted). IsSupported c.loop-one.all.items τ x ↔ IsAmong (record { part = τ; question = x }) all) (take_all c.loop-one.one-index c.deref-one-items.result.now c.loop-one-test.false ∙ c.deref-one-items.ensures.value) (c.loop-one.invariant τ x) in
    let are = c.in_ok-accepted.ensures (record { part = τ; question = x }) in
    (λ h. are.0 (whole.0 h), λ h. whole.1 (are.1 h))
