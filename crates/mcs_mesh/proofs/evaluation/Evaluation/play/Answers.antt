use Rattle.std.proofs.Common.{ℕ, ap, subst, refl, sym, ◌∙◌, Option, Some, Ok, Err}
use Rattle.std.proofs.lemmas.Option.{none-some}
use Rattle.std.specs.Arc.{arc_value}
use Rattle.mcs_system.specs.Plain.{System}
use Rattle.mcs_states.specs.Evaluators.{HasHalted}
use Rattle.mcs_states.specs.declared.halt.Halt.{Halt}
use Rattle.mcs_mesh.specs.Rounds.{IsEvaluation, evaluation_of}
use Rattle.mcs_mesh.proofs.MeshLemmas.{as_played, ended_err, ended_ok, halt_of_round, halted_anyhow, no_halt_yet, shown_at, play_ready, played_done, played_halted, played_kept, played_rest, stopped_kept}
use Rattle.mcs_mesh.proofs.evaluation.Evaluation.play.Goals as goal

pub play-nodes-requires-clause-ready : goal.play-nodes-requires-clause-ready
play-nodes-requires-clause-ready g c = play_ready (g.P.Player.workers c.self.inside.player) (arc_value c.self.inside.plan) c.self.inside.budget c.self.inside.done c.self.inside.halt c.self.inside.replayed c.self.inside.level (g.P.Over.NodeList.seen c.self.inside.nodes) c.self.inside.asked c.self.invariant.0 c.args.self.now c.self.view_is c.args.level c.requires.going c.requires.above
    (arc_value c.in-Ok.plan) (g.P.Over.NodeList.seen c.replace.result) c.in-Ok.ensures (ap g.P.Over.NodeList.seen c.replace.ensures.value)

pub invariant_of-self-in-Ok-total : goal.invariant_of-self-in-Ok-total
invariant_of-self-in-Ok-total g c =
    let p = as_played (arc_value c.self.inside.plan) (arc_value c.in-Ok.plan) c.args.level c.self.inside.budget (g.P.Over.NodeList.seen c.self.inside.nodes) (g.P.Over.NodeList.seen c.replace.result) (g.P.Over.NodeList.seen c.play-nodes.result.nodes) c.play-nodes.result.total (Ok c.in-Ok-total.total) c.in-Ok.ensures
    (ap g.P.Over.NodeList.seen c.replace.ensures.value) c.in-Ok-total.is c.play-nodes.ensures.played in (
      played_kept (g.P.Player.workers c.self.inside.player) (arc_value c.self.inside.plan) c.self.inside.budget c.self.inside.done c.self.inside.halt c.self.inside.replayed c.self.inside.level (g.P.Over.NodeList.seen c.self.inside.nodes) c.self.inside.asked c.self.invariant.0 c.args.self.now c.self.view_is c.args.level c.requires.going c.requires.above (g.P.Over.NodeList.seen c.play-nodes.result.nodes) c.in-Ok-total.total p,
      c.self.invariant.1,
      c.self.invariant.2,
      shown_at (arc_value c.self.inside.plan) c.args.level (λ (m : System) (level : ℕ). g.P.Player.leaves (g.P.Player.workers c.self.inside.player) m level c.self.inside.budget (g.P.Over.NodeList.seen c.play-nodes.result.nodes)) (arc_value c.in-Ok.plan) c.in-Ok.ensures
          c.play-nodes.result.trail c.play-nodes.result.total c.play-nodes.ensures.left c.self.inside.halt (ended_ok (g.P.Player.workers c.self.inside.player) (arc_value c.self.inside.plan) c.self.inside.budget c.self.inside.done c.self.inside.halt c.self.inside.replayed c.self.inside.level (g.P.Over.NodeList.seen c.self.inside.nodes) c.self.inside.asked c.self.invariant.0 c.args.self.now c.self.view_is
          c.requires.going c.play-nodes.result.total c.in-Ok-total.total c.in-Ok-total.is),
      λ plays none is. is,
      no_halt_yet (g.P.Player.workers c.self.inside.player) (arc_value c.self.inside.plan) c.self.inside.budget c.self.inside.done c.self.inside.halt c.self.inside.replayed c.self.inside.level (g.P.Over.NodeList.seen c.self.inside.nodes) c.self.inside.asked c.self.invariant.0 c.args.self.now c.self.view_is c.requires.going (Some c.args.level),
      λ none. absurd (none-some c.args.level (sym none)),
      λ plays none. refl,
    )

pub returns-in-Ok-total-clause-done : goal.returns-in-Ok-total-clause-done
returns-in-Ok-total-clause-done g c =
    let p = as_played (arc_value c.self.inside.plan) (arc_value c.in-Ok.plan) c.args.level c.self.inside.budget (g.P.Over.NodeList.seen c.self.inside.nodes) (g.P.Over.NodeList.seen c.replace.result) (g.P.Over.NodeList.seen c.play-nodes.result.nodes) c.play-nodes.result.total (Ok c.in-Ok-total.total) c.in-Ok.ensures
    (ap g.P.Over.NodeList.seen c.replace.ensures.value) c.in-Ok-total.is c.play-nodes.ensures.played in
    played_done (g.P.Player.workers c.self.inside.player) (arc_value c.self.inside.plan) c.self.inside.budget c.self.inside.done c.self.inside.halt c.self.inside.replayed c.self.inside.level (g.P.Over.NodeList.seen c.self.inside.nodes) c.self.inside.asked c.self.invariant.0 c.args.self.now c.self.view_is c.args.level c.requires.going c.requires.above (g.P.Over.NodeList.seen c.play-nodes.result.nodes) c.in-Ok-total.total p

pub returns-in-Ok-total-clause-rest : goal.returns-in-Ok-total-clause-rest
returns-in-Ok-total-clause-rest g c =
    let p = as_played (arc_value c.self.inside.plan) (arc_value c.in-Ok.plan) c.args.level c.self.inside.budget (g.P.Over.NodeList.seen c.self.inside.nodes) (g.P.Over.NodeList.seen c.replace.result) (g.P.Over.NodeList.seen c.play-nodes.result.nodes) c.play-nodes.result.total (Ok c.in-Ok-total.total) c.in-Ok.ensures
    (ap g.P.Over.NodeList.seen c.replace.ensures.value) c.in-Ok-total.is c.play-nodes.ensures.played in
    played_rest (g.P.Player.workers c.self.inside.player) (arc_value c.self.inside.plan) c.self.inside.budget c.self.inside.done c.self.inside.halt c.self.inside.replayed c.self.inside.level (g.P.Over.NodeList.seen c.self.inside.nodes) c.self.inside.asked c.self.invariant.0 c.args.self.now c.self.view_is c.args.level c.requires.going c.requires.above (g.P.Over.NodeList.seen c.play-nodes.result.nodes) (Some c.args.level) c.self.inside.halt p.same

pub invariant_of-self-in-Err : goal.invariant_of-self-in-Err
invariant_of-self-in-Err g c =
    let p = as_played (arc_value c.self.inside.plan) (arc_value c.in-Ok.plan) c.args.level c.self.inside.budget (g.P.Over.NodeList.seen c.self.inside.nodes) (g.P.Over.NodeList.seen c.replace.result) (g.P.Over.NodeList.seen c.play-nodes.result.nodes) c.play-nodes.result.total (Err c.in-Err.halt) c.in-Ok.ensures
    (ap g.P.Over.NodeList.seen c.replace.ensures.value) c.in-Err.is c.play-nodes.ensures.played in (
      subst (λ (o : Option Halt). IsEvaluation (evaluation_of (g.P.Player.workers c.self.inside.player) (arc_value c.self.inside.plan) c.self.inside.budget c.self.inside.done o c.self.inside.replayed (Some c.args.level) (g.P.Over.NodeList.seen c.play-nodes.result.nodes)) c.self.inside.asked) (sym c.kept_in-in-Err.ensures.kept)
          (stopped_kept (g.P.Player.workers c.self.inside.player) (arc_value c.self.inside.plan) c.self.inside.budget c.self.inside.done c.self.inside.halt c.self.inside.replayed c.self.inside.level (g.P.Over.NodeList.seen c.self.inside.nodes) c.self.inside.asked c.self.invariant.0 c.args.self.now c.self.view_is c.args.level c.requires.going c.requires.above (g.P.Over.NodeList.seen c.play-nodes.result.nodes) c.in-Err.halt c.self.inside.asked p.same),
      c.self.invariant.1,
      c.self.invariant.2,
      shown_at (arc_value c.self.inside.plan) c.args.level (λ (m : System) (level : ℕ). g.P.Player.leaves (g.P.Player.workers c.self.inside.player) m level c.self.inside.budget (g.P.Over.NodeList.seen c.play-nodes.result.nodes)) (arc_value c.in-Ok.plan) c.in-Ok.ensures
          c.play-nodes.result.trail c.play-nodes.result.total c.play-nodes.ensures.left c.kept_in-in-Err.new.place (ended_err c.kept_in-in-Err.new.place c.in-Err.halt c.play-nodes.result.total c.kept_in-in-Err.ensures.kept c.in-Err.is),
      λ plays none. halted_anyhow c.kept_in-in-Err.new.place c.in-Err.halt (arc_value c.self.inside.plan) c.self.inside.done (Some c.args.level) c.kept_in-in-Err.ensures.kept none,
      halt_of_round (arc_value c.self.inside.plan) c.args.level c.self.inside.budget (g.P.Over.NodeList.seen c.self.inside.nodes) (g.P.Over.NodeList.seen c.play-nodes.result.nodes) c.kept_in-in-Err.new.place c.in-Err.halt c.kept_in-in-Err.ensures.kept p,
      λ none. absurd (none-some c.args.level (sym none)),
      λ plays none. absurd (none-some c.in-Err.halt (sym none ∙ c.kept_in-in-Err.ensures.kept)),
    )

pub returns-in-Err-clause-halt : goal.returns-in-Err-clause-halt
returns-in-Err-clause-halt g c =
    let p = as_played (arc_value c.self.inside.plan) (arc_value c.in-Ok.plan) c.args.level c.self.inside.budget (g.P.Over.NodeList.seen c.self.inside.nodes) (g.P.Over.NodeList.seen c.replace.result) (g.P.Over.NodeList.seen c.play-nodes.result.nodes) c.play-nodes.result.total (Err c.in-Err.halt) c.in-Ok.ensures
    (ap g.P.Over.NodeList.seen c.replace.ensures.value) c.in-Err.is c.play-nodes.ensures.played in
    let state = λ (o : Option Halt). (evaluation_of (g.P.Player.workers c.self.inside.player) (arc_value c.self.inside.plan) c.self.inside.budget c.self.inside.done o c.self.inside.replayed (Some c.args.level) (g.P.Over.NodeList.seen c.play-nodes.result.nodes)).state in
    subst (λ (o : Option Halt). HasHalted c.args.self.now.state (state o) c.args.level c.kept_in-in-Err.result) (sym c.kept_in-in-Err.ensures.kept)
    (subst (λ (h : Halt). HasHalted c.args.self.now.state (state (Some c.in-Err.halt)) c.args.level h) (sym c.kept_in-in-Err.ensures.same)
    (played_halted (g.P.Player.workers c.self.inside.player) (arc_value c.self.inside.plan) c.self.inside.budget c.self.inside.done c.self.inside.halt c.self.inside.replayed c.self.inside.level (g.P.Over.NodeList.seen c.self.inside.nodes) c.self.inside.asked c.self.invariant.0 c.args.self.now c.self.view_is c.args.level c.requires.going c.requires.above (g.P.Over.NodeList.seen c.play-nodes.result.nodes) c.in-Err.halt p))

pub returns-in-Err-clause-rest : goal.returns-in-Err-clause-rest
returns-in-Err-clause-rest g c =
    let p = as_played (arc_value c.self.inside.plan) (arc_value c.in-Ok.plan) c.args.level c.self.inside.budget (g.P.Over.NodeList.seen c.self.inside.nodes) (g.P.Over.NodeList.seen c.replace.result) (g.P.Over.NodeList.seen c.play-nodes.result.nodes) c.play-nodes.result.total (Err c.in-Err.halt) c.in-Ok.ensures
    (ap g.P.Over.NodeList.seen c.replace.ensures.value) c.in-Err.is c.play-nodes.ensures.played in
    played_rest (g.P.Player.workers c.self.inside.player) (arc_value c.self.inside.plan) c.self.inside.budget c.self.inside.done c.self.inside.halt c.self.inside.replayed c.self.inside.level (g.P.Over.NodeList.seen c.self.inside.nodes) c.self.inside.asked c.self.invariant.0 c.args.self.now c.self.view_is c.args.level c.requires.going c.requires.above (g.P.Over.NodeList.seen c.play-nodes.result.nodes) c.self.inside.done c.kept_in-in-Err.new.place p.same
