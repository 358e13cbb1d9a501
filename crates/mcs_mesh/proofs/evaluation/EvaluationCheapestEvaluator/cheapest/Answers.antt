use Rattle.std.proofs.lemmas.Result.{err_from_is_err_and}
use Rattle.mcs_states.specs.declared.halt.Halt.{Halt}
use Rattle.mcs_states.specs.declared.halt.Halt.TheVariants.{Memory}
use Rattle.mcs_mesh.specs.Found.{AreRepairsFound}
use Rattle.std.proofs.Common.{◌≡◌, ◌≤◌, ◌∙◌, ap, sym, subst, unwrap_or, ℕ, Option, length, refl}
use Rattle.std.proofs.lemmas.Option.{none-some}
use Rattle.std.specs.Arc.{arc_value}
use Rattle.mcs_system.specs.Plain.{System}
use Rattle.mcs_states.specs.Evaluators.{HasDone, unasked}
use Rattle.mcs_costs.specs.Settling.{IsSettling}
use Rattle.mcs_mesh.specs.Rounds.{EvaluationData, IsEvaluation, IsHaltOfRound, evaluation_of}
use Rattle.mcs_mesh.proofs.MeshLemmas.{known_at, halted_anyhow, memory_kept, memory_shown}
use Rattle.mcs_mesh.proofs.evaluation.EvaluationCheapestEvaluator.cheapest.Goals as goal

pub cheapest-requires-clause-known : goal.cheapest-requires-clause-known
cheapest-requires-clause-known g c =
    let (k, done, less, each, all) = known_at (g.P.Player.workers c.self.inside.player) (arc_value c.self.inside.plan) c.self.inside.budget c.self.inside.done c.self.inside.halt c.self.inside.replayed c.self.inside.level (g.P.Over.NodeList.seen c.self.inside.nodes) c.self.inside.asked c.self.invariant.0 c.reach.new.self c.self.view_is
    c.args.self.now.state c.args.level c.in_ok-reach.ensures.done in
    let level : c.unwrap_or-done.result ≡ k = c.unwrap_or-done.ensures ∙ ap (λ (o : Option ℕ). unwrap_or o c.args.level) done in
    rw (level, c.deref.ensures) all

pub returns-in-Ok-clause-told : goal.returns-in-Ok-clause-told
returns-in-Ok-clause-told g c = subst (λ (m : System). IsSettling m c.args.level c.in-Ok.told) (c.deref.ensures ∙ ap (λ (e : EvaluationData). e.state.system) c.self.view_is ∙ c.reach.ensures.rest.system) c.in-Ok.ensures.told

pub reach-requires : goal.reach-requires
reach-requires g c = c.requires

pub returns-in_err-reach-clause-halt : goal.returns-in_err-reach-clause-halt
returns-in_err-reach-clause-halt g c =
    let p = err_from_is_err_and c.from_residual.result c.from_residual.ensures.1 in
    rw (p.1, p.2) c.in_err-reach.ensures.halt

pub cheapest-requires-clause-before : goal.cheapest-requires-clause-before
cheapest-requires-clause-before g c = subst (λ (m : System). AreRepairsFound m c.self.inside.found.level c.self.inside.found.pairs.items) (sym c.deref.ensures) c.self.invariant.1

pub cheapest-requires-clause-one_each : goal.cheapest-requires-clause-one_each
cheapest-requires-clause-one_each g c = c.self.invariant.0.own.one_each ∙ ap (λ (m : System). length m.contexts) (sym c.deref.ensures)

pub cheapest-requires-clause-within : goal.cheapest-requires-clause-within
cheapest-requires-clause-within g c =
    let (k, done, less, each, all) = known_at (g.P.Player.workers c.self.inside.player) (arc_value c.self.inside.plan) c.self.inside.budget c.self.inside.done c.self.inside.halt c.self.inside.replayed c.self.inside.level (g.P.Over.NodeList.seen c.self.inside.nodes) c.self.inside.asked c.self.invariant.0 c.reach.new.self c.self.view_is
    c.args.self.now.state c.args.level c.in_ok-reach.ensures.done in
    let level : c.unwrap_or-done.result ≡ k = c.unwrap_or-done.ensures ∙ ap (λ (o : Option ℕ). unwrap_or o c.args.level) done in
    subst (λ (n : ℕ). c.args.level ≤ n) (sym level) less

pub invariant_of-self : goal.invariant_of-self
invariant_of-self g c = (
  c.self.invariant.0,
  subst (λ (m : System). AreRepairsFound m c.cheapest.new.self.level c.cheapest.new.self.pairs.items) c.deref.ensures c.cheapest.ensures.kept,
  c.self.invariant.2,
  c.self.invariant.3,
  c.self.invariant.4,
  c.self.invariant.5,
  c.self.invariant.6,
  c.self.invariant.7,
)

pub returns-in-Ok-clause-done : goal.returns-in-Ok-clause-done
returns-in-Ok-clause-done g c = subst (λ (e : EvaluationData). HasDone c.args.self.now.state e.state c.args.level) (sym c.self.view_is) c.in_ok-reach.ensures.done

pub invariant_of-self-in-Err : goal.invariant_of-self-in-Err
invariant_of-self-in-Err g c = (
  subst (λ (o : Option Halt). IsEvaluation (evaluation_of (g.P.Player.workers c.self.inside.player) (arc_value c.self.inside.plan) c.self.inside.budget c.self.inside.done o c.self.inside.replayed c.self.inside.level (g.P.Over.NodeList.seen c.self.inside.nodes)) c.self.inside.asked) (sym c.kept_in.ensures.kept) (memory_kept (g.P.Player.workers c.self.inside.player) (arc_value c.self.inside.plan) c.self.inside.budget c.self.inside.done c.self.inside.halt c.self.inside.replayed c.self.inside.level (g.P.Over.NodeList.seen c.self.inside.nodes) c.self.inside.asked c.self.invariant.0 c.reach.new.self c.self.view_is),
  subst (λ (m : System). AreRepairsFound m c.cheapest.new.self.level c.cheapest.new.self.pairs.items) c.deref.ensures c.cheapest.ensures.kept,
  c.self.invariant.2,
  λ level is. memory_shown (g.P.Player.workers c.self.inside.player) (arc_value c.self.inside.plan) c.self.inside.budget c.self.inside.done c.self.inside.halt c.self.inside.replayed c.self.inside.level (g.P.Over.NodeList.seen c.self.inside.nodes) c.self.inside.asked c.self.invariant.0 c.reach.new.self c.self.view_is (g.P.Player.leaves (g.P.Player.workers c.self.inside.player) (arc_value c.self.inside.plan) level c.self.inside.budget (g.P.Over.NodeList.seen c.self.inside.nodes)) c.self.inside.trail c.kept_in.new.place
      c.in_ok-reach.ensures.done.settled.going c.kept_in.ensures.kept (c.self.invariant.3 level is),
  λ plays none. halted_anyhow c.kept_in.new.place Memory (arc_value c.self.inside.plan) c.self.inside.done c.self.inside.level c.kept_in.ensures.kept none,
  subst (λ (o : Option Halt). IsHaltOfRound c.self.inside.budget c.self.inside.level o) (sym c.kept_in.ensures.kept) tt,
  c.self.invariant.6,
  λ plays none. absurd (none-some Memory (sym none ∙ c.kept_in.ensures.kept)),
)

pub returns-in-Ok-clause-rest : goal.returns-in-Ok-clause-rest
returns-in-Ok-clause-rest g c =
    let kept = c.reach.ensures.rest in
    record {
      system = ap (λ (e : EvaluationData). e.state.system) c.self.view_is ∙ kept.system;
      budget = ap (λ (e : EvaluationData). e.state.budget) c.self.view_is ∙ kept.budget;
      workers = ap (λ (e : EvaluationData). e.state.workers) c.self.view_is ∙ kept.workers;
      oracles = ap (λ (e : EvaluationData). unasked e.state.oracles) c.self.view_is ∙ kept.oracles;
    }

pub returns-in-Err-clause-halt : goal.returns-in-Err-clause-halt
returns-in-Err-clause-halt g c = rw (c.kept_in.ensures.kept, c.kept_in.ensures.same) (record { cause = tt; told = refl; over = refl })

pub returns-in-Err-clause-rest : goal.returns-in-Err-clause-rest
returns-in-Err-clause-rest g c =
    let kept = c.reach.ensures.rest in
    record {
      system = ap (λ (e : EvaluationData). e.state.system) c.self.view_is ∙ kept.system;
      budget = ap (λ (e : EvaluationData). e.state.budget) c.self.view_is ∙ kept.budget;
      workers = ap (λ (e : EvaluationData). e.state.workers) c.self.view_is ∙ kept.workers;
      oracles = ap (λ (e : EvaluationData). unasked e.state.oracles) c.self.view_is ∙ kept.oracles;
    }
