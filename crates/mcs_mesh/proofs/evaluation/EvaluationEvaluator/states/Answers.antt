use Rattle.std.proofs.lemmas.Result.{err_from_is_err_and}
use Rattle.mcs_states.specs.declared.halt.Halt.{Halt}
use Rattle.mcs_states.specs.declared.halt.Halt.TheVariants.{Memory}
use Rattle.mcs_sets.specs.Sets.{size, Within}
use Rattle.mcs_system.specs.Repairs.{allowed_marks}
use Rattle.std.proofs.Common.{◌≡◌, ◌≤◌, ◌∙◌, ℕ, ap, sym, subst, Option, length, refl}
use Rattle.std.proofs.lemmas.Option.{none-some}
use Rattle.std.specs.Arc.{arc_value}
use Rattle.mcs_system.specs.Plain.{System}
use Rattle.mcs_states.specs.Evaluators.{AreStates, HasDone, HasHalted, unasked}
use Rattle.mcs_mesh.specs.Rounds.{EvaluationData, IsEvaluation, IsHaltOfRound, evaluation_of}
use Rattle.mcs_mesh.proofs.MeshLemmas.{known_at, halted_anyhow, memory_kept, memory_shown}
use Rattle.mcs_mesh.proofs.evaluation.EvaluationEvaluator.states.Goals as goal

pub changed_states-requires-clause-known : goal.changed_states-requires-clause-known
changed_states-requires-clause-known g c =
    let (k, done, less, each, all) = known_at (g.P.Player.workers c.self.inside.player) (arc_value c.self.inside.plan) c.self.inside.budget c.self.inside.done c.self.inside.halt c.self.inside.replayed c.self.inside.level (g.P.Over.NodeList.seen c.self.inside.nodes) c.self.inside.asked c.self.invariant.0 c.reach.new.self c.self.view_is
    c.args.self.now.state c.count.result c.in_ok-reach.ensures.done in
    let number : c.count.result ≡ size c.args.pair = c.count.ensures.number ∙ ap size c.marks.ensures in
    (k, subst (λ (n : ℕ). n ≤ k) number less, rw c.deref.ensures all)

pub returns-in-Ok-clause-listing : goal.returns-in-Ok-clause-listing
returns-in-Ok-clause-listing g c = subst (λ (m : System). AreStates m c.args.pair c.in-Ok.states.items) (c.deref.ensures ∙ ap (λ (e : EvaluationData). e.state.system) c.self.view_is ∙ c.reach.ensures.rest.system) c.in-Ok.ensures

pub reach-requires : goal.reach-requires
reach-requires g c = c.requires.going

pub returns-in_err-reach-clause-halt : goal.returns-in_err-reach-clause-halt
returns-in_err-reach-clause-halt g c =
    let number : c.count.result ≡ size c.args.pair = c.count.ensures.number ∙ ap size c.marks.ensures in
    let p = err_from_is_err_and c.from_residual.result c.from_residual.ensures.1 in
    rw (p.1, p.2) (subst (λ (n : ℕ). HasHalted c.args.self.now.state c.reach.new.self.state n c.in_err-reach.field-0.0) number c.in_err-reach.ensures.halt)

pub changed_states-requires-clause-one_each : goal.changed_states-requires-clause-one_each
changed_states-requires-clause-one_each g c = c.self.invariant.0.own.one_each ∙ ap (λ (m : System). length m.contexts) (sym c.deref.ensures)

pub changed_states-requires-clause-allowed : goal.changed_states-requires-clause-allowed
changed_states-requires-clause-allowed g c = subst (λ (m : System). Within c.args.pair (allowed_marks m)) (sym (c.deref.ensures ∙ ap (λ (e : EvaluationData). e.state.system) c.self.view_is ∙ c.reach.ensures.rest.system)) c.requires.allowed

pub returns-in-Ok-clause-done : goal.returns-in-Ok-clause-done
returns-in-Ok-clause-done g c =
    let number : c.count.result ≡ size c.args.pair = c.count.ensures.number ∙ ap size c.marks.ensures in
    subst (λ (n : ℕ). HasDone c.args.self.now.state c.reach.new.self.state n) number c.in_ok-reach.ensures.done

pub invariant_of-self : goal.invariant_of-self
invariant_of-self g c = (
  subst (λ (o : Option Halt). IsEvaluation (evaluation_of (g.P.Player.workers c.self.inside.player) (arc_value c.self.inside.plan) c.self.inside.budget c.self.inside.done o c.self.inside.replayed c.self.inside.level (g.P.Over.NodeList.seen c.self.inside.nodes)) c.self.inside.asked) (sym c.kept_in.ensures.kept) (memory_kept (g.P.Player.workers c.self.inside.player) (arc_value c.self.inside.plan) c.self.inside.budget c.self.inside.done c.self.inside.halt c.self.inside.replayed c.self.inside.level (g.P.Over.NodeList.seen c.self.inside.nodes) c.self.inside.asked c.self.invariant.0 c.reach.new.self c.self.view_is),
  c.self.invariant.1,
  c.self.invariant.2,
  λ level is. memory_shown (g.P.Player.workers c.self.inside.player) (arc_value c.self.inside.plan) c.self.inside.budget c.self.inside.done c.self.inside.halt c.self.inside.replayed c.self.inside.level (g.P.Over.NodeList.seen c.self.inside.nodes) c.self.inside.asked c.self.invariant.0 c.reach.new.self c.self.view_is (g.P.Player.leaves (g.P.Player.workers c.self.inside.player) (arc_value c.self.inside.plan) level c.self.inside.budget (g.P.Over.NodeList.seen c.self.inside.nodes)) c.self.inside.trail c.kept_in.new.place
      c.in_ok-reach.ensures.done.settled.going c.kept_in.ensures.kept (c.self.invariant.3 level is),
  λ plays none. halted_anyhow c.kept_in.new.place Memory (arc_value c.self.inside.plan) c.self.inside.done c.self.inside.level c.kept_in.ensures.kept none,
  subst (λ (o : Option Halt). IsHaltOfRound c.self.inside.budget c.self.inside.level o) (sym c.kept_in.ensures.kept) tt,
  c.self.invariant.6,
  λ plays none. absurd (none-some Memory (sym none ∙ c.kept_in.ensures.kept)),
)

pub returns-in-Ok-clause-rest : goal.returns-in-Ok-clause-rest
returns-in-Ok-clause-rest g c = c.reach.ensures.rest

pub returns-in-Err-clause-halt : goal.returns-in-Err-clause-halt
returns-in-Err-clause-halt g c = rw (c.kept_in.ensures.kept, c.kept_in.ensures.same) (record { cause = tt; told = refl; over = refl })

pub returns-in-Err-clause-rest : goal.returns-in-Err-clause-rest
returns-in-Err-clause-rest g c =
    let kept = c.reach.ensures.rest in
    record {
      system = ap (λ (e : EvaluationData). e.state.system) c.self.view_is ∙ kept.system;
      budget = ap (λ (e : EvaluationData). e.state.budget) c.self.view_is ∙ kept.budget;
      workers = ap (λ (e : EvaluationData). e.state.workers) c.self.view_is ∙ kept.workers;
      oracles = ap (λ (e : EvaluationData). unasked e.state.oracles) c.self.view_is ∙ kept.oracles;
    }
