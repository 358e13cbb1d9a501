use Rattle.std.proofs.Common.{◌∙◌, Ok, Some, sym, refl, true≢false}
use Rattle.std.proofs.lemmas.Option.{none-some}
use Rattle.std.specs.Arc.{arc_value}
use Rattle.mcs_mesh.proofs.MeshLemmas.{ended_ok, no_halt_yet}
use Rattle.mcs_mesh.proofs.ReplayLemmas.{none_played, replay_kept, replay_left, replay_rest, replay_sound}
use Rattle.mcs_mesh.proofs.replay.Mesh+O+G.replay.Goals as goal

-- ---- want of memory
pub invariant_of-self : goal.invariant_of-self
invariant_of-self g c = (
  replay_kept 1 (arc_value c.self.inside.plan) c.self.inside.budget c.self.inside.done c.self.inside.halt c.self.inside.replayed c.self.inside.level c.self.inside.nodes.list.items c.self.inside.asked c.self.invariant.0 c.args.self.now c.self.view_is
      c.replay_events.new.nodes c.deref_mut.result.now c.self.inside.nodes.list.len c.self.inside.nodes.list.ok.0 c.deref_mut.ensures.value c.replay_events.ensures.same c.self.inside.level,
  c.self.invariant.1,
  c.self.invariant.2,
  λ level at. absurd (none-some level (sym (none_played 1 (arc_value c.self.inside.plan) c.self.inside.budget c.self.inside.done c.self.inside.halt c.self.inside.replayed c.self.inside.level c.self.inside.nodes.list.items c.self.inside.asked c.self.invariant.0 c.args.self.now c.self.view_is c.requires.first) ∙ at)),
  λ plays. absurd (true≢false (sym plays)),
  no_halt_yet 1 (arc_value c.self.inside.plan) c.self.inside.budget c.self.inside.done c.self.inside.halt c.self.inside.replayed c.self.inside.level c.self.inside.nodes.list.items c.self.inside.asked c.self.invariant.0 c.args.self.now c.self.view_is c.requires.going c.self.inside.level,
  c.self.invariant.6,
  λ plays. absurd (true≢false (sym plays)),
)

pub returns-in_err-told-clause-rest : goal.returns-in_err-told-clause-rest
returns-in_err-told-clause-rest g c = replay_rest 1 (arc_value c.self.inside.plan) c.self.inside.budget c.self.inside.done c.self.inside.halt c.self.inside.replayed c.self.inside.level c.self.inside.nodes.list.items c.self.inside.asked c.self.invariant.0 c.args.self.now c.self.view_is
    c.replay_events.new.nodes c.deref_mut.result.now c.self.inside.nodes.list.len c.self.inside.nodes.list.ok.0 c.deref_mut.ensures.value c.replay_events.ensures.same c.self.inside.level

-- ---- what is told
pub invariant_of-self-2 : goal.invariant_of-self-2
invariant_of-self-2 g c = (
  replay_kept 1 (arc_value c.self.inside.plan) c.self.inside.budget c.self.inside.done c.self.inside.halt c.self.inside.replayed c.self.inside.level c.self.inside.nodes.list.items c.self.inside.asked c.self.invariant.0 c.args.self.now c.self.view_is
      c.replay_events.new.nodes c.deref_mut.result.now c.self.inside.nodes.list.len c.self.inside.nodes.list.ok.0 c.deref_mut.ensures.value c.replay_events.ensures.same (Some c.args.level),
  c.self.invariant.1,
  c.self.invariant.2,
  λ level at. (
    tt,
    refl,
    Ok 0,
    replay_sound 1 (arc_value c.self.inside.plan) c.self.inside.budget c.self.inside.done c.self.inside.halt c.self.inside.replayed c.self.inside.level c.self.inside.nodes.list.items c.self.inside.asked c.self.invariant.0 c.args.self.now c.self.view_is
        c.replay_events.new.nodes c.deref_mut.result.now c.self.inside.nodes.list.len c.self.inside.nodes.list.ok.0 c.deref_mut.ensures.value c.replay_events.ensures.same c.args.level c.args.events.now c.in_ok-told.told c.in_ok-told.ensures.replayed c.requires.going c.requires.first level at,
    ended_ok 1 (arc_value c.self.inside.plan) c.self.inside.budget c.self.inside.done c.self.inside.halt c.self.inside.replayed c.self.inside.level c.self.inside.nodes.list.items c.self.inside.asked c.self.invariant.0 c.args.self.now c.self.view_is c.requires.going (Ok 0) 0 refl,
  ),
  λ plays. absurd (true≢false (sym plays)),
  no_halt_yet 1 (arc_value c.self.inside.plan) c.self.inside.budget c.self.inside.done c.self.inside.halt c.self.inside.replayed c.self.inside.level c.self.inside.nodes.list.items c.self.inside.asked c.self.invariant.0 c.args.self.now c.self.view_is c.requires.going (Some c.args.level),
  λ none. absurd (none-some c.args.level (sym none)),
  λ plays. absurd (true≢false (sym plays)),
)

pub returns-clause-replayed : goal.returns-clause-replayed
returns-clause-replayed g c = (
  refl,
  replay_left 1 (arc_value c.self.inside.plan) c.self.inside.budget c.self.inside.done c.self.inside.halt c.self.inside.replayed c.self.inside.level c.self.inside.nodes.list.items c.self.inside.asked c.self.invariant.0 c.args.self.now c.self.view_is
      c.replay_events.new.nodes c.deref_mut.result.now c.self.inside.nodes.list.len c.self.inside.nodes.list.ok.0 c.deref_mut.ensures.value c.replay_events.ensures.same c.args.level c.args.events.now c.in_ok-told.told c.in_ok-told.ensures.replayed c.requires.going c.requires.first,
)

pub returns-clause-rest : goal.returns-clause-rest
returns-clause-rest g c = replay_rest 1 (arc_value c.self.inside.plan) c.self.inside.budget c.self.inside.done c.self.inside.halt c.self.inside.replayed c.self.inside.level c.self.inside.nodes.list.items c.self.inside.asked c.self.invariant.0 c.args.self.now c.self.view_is
    c.replay_events.new.nodes c.deref_mut.result.now c.self.inside.nodes.list.len c.self.inside.nodes.list.ok.0 c.deref_mut.ensures.value c.replay_events.ensures.same (Some c.args.level)
