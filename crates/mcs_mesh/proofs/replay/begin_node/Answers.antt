use Rattle.std.proofs.Common.{◌∙◌, ap, is_some, sym, refl}
use Rattle.mcs_node.specs.Rounds.{NodeState}
use Rattle.mcs_mesh.proofs.ReplayLemmas.{can_begin_it, has_begun_it, untouched_above}
use Rattle.mcs_mesh.proofs.replay.begin_node.Goals as goal

pub returns-then-is_some-clause-begins : goal.returns-then-is_some-clause-begins
returns-then-is_some-clause-begins g c = (has_begun_it c.args.level c.args.node.now c.requires (ap is_some (sym c.level.ensures) ∙ sym c.is_some.ensures ∙ c.if-is_some.true), refl)

pub begin-requires-clause-going : goal.begin-requires-clause-going
begin-requires-clause-going g c = ap (λ (s : NodeState). s.halt) (can_begin_it c.args.level c.args.node.now c.requires (ap is_some (sym c.level.ensures) ∙ sym c.is_some.ensures ∙ c.if-is_some.false)).1

pub begin-requires-clause-above : goal.begin-requires-clause-above
begin-requires-clause-above g c = untouched_above c.args.level c.args.node.now (can_begin_it c.args.level c.args.node.now c.requires (ap is_some (sym c.level.ensures) ∙ sym c.is_some.ensures ∙ c.if-is_some.false))

pub returns-clause-begins : goal.returns-clause-begins
returns-clause-begins g c = (can_begin_it c.args.level c.args.node.now c.requires (ap is_some (sym c.level.ensures) ∙ sym c.is_some.ensures ∙ c.if-is_some.false), c.in_ok-begin.ensures.begun)
