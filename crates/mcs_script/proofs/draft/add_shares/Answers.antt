use Rattle.std.proofs.Common.{List, ◌<◌, length, ap, refl, arith}
use Rattle.std.proofs.lemmas.List.{length-map}
use Rattle.std.proofs.lemmas.Option.{slice_get-get_or}
use Rattle.mcs_system.specs.Plain.{Context}
use Rattle.mcs_system.specs.Seen.{context_of}
use Rattle.mcs_script.proofs.ShareLemmas.{mixed_first, mixed_next, mixed_last}
use Rattle.mcs_script.proofs.draft.add_shares.Goals as goal

pub loop-context-init : goal.loop-context-init
loop-context-init c = mixed_first _ _ _ _ c.requires

pub add_share-requires-clause-share : goal.add_share-requires-clause-share
add_share-requires-clause-share c =
    let contexts = ap (λ (cs : List Context). length cs) c.contexts-context-end.ensures.value in
    let less : c.loop-context.context < length c.loop-context.shares = omega (arith, c.loop-context-test.true, c.loop-context.invariant.one_each, contexts, length-map c.contexts-context-end.result.now context_of) in
    c.loop-context.invariant.rest c.loop-context.context _ (slice_get-get_or c.loop-context.shares c.loop-context.context c.index-shares-context.result less) (omega arith)

pub loop-context-preserved : goal.loop-context-preserved
loop-context-preserved c = mixed_next _ _ _ _ _ _ _ refl c.loop-context.invariant c.in_ok-add_share.ensures

pub returns : goal.returns
returns c =
    let contexts = ap (λ (cs : List Context). length cs) c.contexts-context-end.ensures.value in
    mixed_last _ _ _ _ _ (omega (arith, c.loop-context-test.false, c.loop-context.invariant.one_each, contexts, length-map c.contexts-context-end.result.now context_of)) c.loop-context.invariant
