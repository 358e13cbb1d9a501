use Rattle.std.proofs.Common.{◌∙◌, ap, length, map, subst, sym}
use Rattle.std.specs.Arc.{arc_value}
use Rattle.mcs_mesh.specs.Rounds.{AreFresh}
use Rattle.mcs_system.specs.Plain.{System}
use Rattle.mcs_listing.proofs.WorkedLemmas.{begun_with}
use Rattle.mcs_listing.proofs.beginning.begin_with.Goals as goal

pub nodes_of-requires-clause-one_each : goal.nodes_of-requires-clause-one_each
nodes_of-requires-clause-one_each g c = c.requires.one_each ∙ sym (ap (λ (m : System). length m.contexts) (c.in_ok-plan.ensures.ok ∙ (c.in_ok-of.ensures ∙ c.in_ok-clone.ensures.cases)))

pub nodes_of-requires-clause-own : goal.nodes_of-requires-clause-own
nodes_of-requires-clause-own g c = subst (λ (n : System). AreFresh n (map g.O.Oracle.stands c.args.oracles.items)) (sym (c.in_ok-plan.ensures.ok ∙ (c.in_ok-of.ensures ∙ c.in_ok-clone.ensures.cases))) c.requires.own

pub returns-clause-begins : goal.returns-clause-begins
returns-clause-begins g c = begun_with (arc_value c.args.system.now) (arc_value c.in_ok-plan.plan) c.args.budget (map g.O.Oracle.stands c.args.oracles.items) c.in_ok-list.list.items
    (c.in_ok-plan.ensures.ok ∙ (c.in_ok-of.ensures ∙ c.in_ok-clone.ensures.cases)) c.in_ok-list.ensures c.requires.own

pub returns-clause-same : goal.returns-clause-same
returns-clause-same g c = c.in_ok-list.ensures.oracles_are
