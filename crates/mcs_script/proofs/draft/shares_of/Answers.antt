use Rattle.std.proofs.Common.{ℕ, map, sym, subst, arith}
use Rattle.mcs_system.specs.Seen.{bridge_of}
use Rattle.mcs_script.specs.Found.{IsShare}
use Rattle.mcs_script.proofs.ShareLemmas.{share_pushed}
use Rattle.mcs_script.proofs.draft.shares_of.Goals as goal

pub loop-context-preserved : goal.loop-context-preserved
loop-context-preserved c = record {
  so_far = omega (arith, c.in_ok-push.ensures.len, c.loop-context.invariant.so_far);
  each = share_pushed c.args.bare.now.contexts (map bridge_of c.args.rules.now) c.loop-context.shares.items c.push.new.self.items c.in_ok-share_of.field-0 c.in_ok-push.ensures.items c.loop-context.invariant.each
      (subst (λ (i : ℕ). IsShare i c.args.bare.now.contexts (map bridge_of c.args.rules.now) c.in_ok-share_of.field-0) (sym c.loop-context.invariant.so_far) c.in_ok-share_of.ensures);
}
