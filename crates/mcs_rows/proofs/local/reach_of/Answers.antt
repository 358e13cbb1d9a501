use Rattle.std.proofs.Common.{◌≡◌, ◌∙◌, ℕ, true, ap, subst}
use Rattle.mcs_sets.specs.Sets.{has, minus}
use Rattle.mcs_base.specs.Antichains.{HasOneWithin}
use Rattle.mcs_base.specs.Pairs.{removed_of, forced_of}
use Rattle.mcs_rows.proofs.ReachLemmas.{never_removed, never_forced}
use Rattle.mcs_rows.proofs.local.reach_of.Goals as goal

pub returns-clause-reach : goal.returns-clause-reach
returns-clause-reach c =
    let allowed = c.allowed-allowed.result in
    let alone = c.alone_in-alone.result in
    let every = c.numbered-every.result in
    let may : c.new-may.result ≡ minus allowed alone = c.new-may.ensures ∙ c.minus.ensures in
    let removed : c.minus-2.result ≡ minus every (removed_of (minus allowed alone)) = c.minus-2.ensures ∙ ap (minus every) (c.removed.ensures ∙ ap removed_of may) in
    let forced : c.minus-3.result ≡ minus every (forced_of (minus allowed alone)) = c.minus-3.ensures ∙ ap (minus every) (c.forced.ensures ∙ ap forced_of may) in
    record {
      allowed = c.allowed-allowed.ensures;
      alone = c.alone_in-alone.ensures;
      removed = λ s k out there. never_removed allowed alone (HasOneWithin c.args.known.now) c.alone_in-alone.ensures every s k (subst (λ (z : ℕ). has z k ≡ true) removed out) there;
      forced = λ s k out there. never_forced allowed alone (HasOneWithin c.args.known.now) c.alone_in-alone.ensures every s k (subst (λ (z : ℕ). has z k ≡ true) forced out) there;
    }
