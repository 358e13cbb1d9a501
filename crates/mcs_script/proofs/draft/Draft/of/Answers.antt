use Rattle.std.proofs.Common.{ap, ◌∙◌}
use Rattle.mcs_system.specs.Plain.{System}
use Rattle.mcs_script.proofs.DraftLemmas.{bare_is_valid, draft_of}
use Rattle.mcs_script.proofs.draft.Draft.of.Goals as goal

pub with_valid_rules-requires : goal.with_valid_rules-requires
with_valid_rules-requires c = rw c.new.ensures.items (bare_is_valid c.args.system.now c.bridges.ensures.valid)

pub invariant_of-result : goal.invariant_of-result
invariant_of-result c =
    let contexts = ap (λ (m : System). m.contexts) c.in_ok-bare.ensures in
    let rules = c.in_ok-rules.ensures ∙ c.bridges.ensures.value in
    draft_of _ c.args.system.now _ _ _ contexts rules c.bridges.ensures.valid (rw c.deref.ensures.value at c.in_ok-reads.ensures) (rw c.deref-2.ensures.value at c.in_ok-shares.ensures)
