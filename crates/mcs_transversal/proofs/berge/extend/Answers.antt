use Rattle.std.proofs.Common.{◌∙◌, sym, true≢false}
use Rattle.mcs_transversal.proofs.BergeLemmas.{comes-kept}
use Rattle.mcs_transversal.proofs.berge.extend.Goals as goal

pub returns-then-meets : goal.returns-then-meets
returns-then-meets c x = rw c.in_ok-push.ensures.items (comes-kept _ _ _ _ (c.meets.ensures.0 c.if-meets.true) x)

pub grow_by_sets-requires-clause-apart : goal.grow_by_sets-requires-clause-apart
grow_by_sets-requires-clause-apart c meets = true≢false (sym (c.meets.ensures.1 meets) ∙ c.if-meets.false)

pub returns-then-ts-edges : goal.returns-then-ts-edges
returns-then-ts-edges c = let (before, is, all) = c.requires.before in rw is (c.in_ok-grow_by_sets.ensures before all)

pub grow_by_edges-requires : goal.grow_by_edges-requires
grow_by_edges-requires c meets = true≢false (sym (c.meets.ensures.1 meets) ∙ c.if-meets.false)
