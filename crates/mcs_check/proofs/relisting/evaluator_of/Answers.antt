use Rattle.std.proofs.Common.{◌≡◌, List, map, None, Some, sym, ap, ◌∙◌}
use Rattle.std.proofs.lemmas.List.{map-id}
use Rattle.std.specs.Arc.{arc_value}
use Rattle.mcs_base.proofs.Lists.{map_slice_get}
use Rattle.mcs_system.specs.Plain.{System}
use Rattle.mcs_states.specs.Evaluators.{EvaluatorState}
use Rattle.mcs_states.specs.Oracles.{OracleState}
use Rattle.mcs_mesh.specs.Rounds.{evaluator_state_of}
use Rattle.mcs_check.specs.Relisting.{start_of}
use Rattle.mcs_check.proofs.relisting.evaluator_of.Goals as goal

-- the evaluator that is made
made : (m n : System) (os : List OracleState) (e : EvaluatorState) → e ≡ evaluator_state_of 1 n 4294967295 None None (map (λ (o : OracleState). o) os) → n ≡ m → e ≡ start_of m os
made m n os e is same = is ∙ ap (λ (k : System). start_of k (map (λ (o : OracleState). o) os)) same ∙ ap (start_of m) (map-id os)

pub new-requires-2-clause-own : goal.new-requires-2-clause-own
new-requires-2-clause-own c i o is =
    let same = c.in_ok-plan.ensures.ok ∙ (c.in_ok-of.ensures ∙ c.in_ok-clone.ensures.cases) in
    let (x, at, e) = map_slice_get (λ (x : OracleState). x) c.args.oracles.items i o is in
    let own = c.requires.own.fresh i o (at ∙ ap (λ (y : OracleState). Some y) e) in
    (own.0 ∙ sym same, own.1, own.2)

same_system : (m n : System) (os : List OracleState) → n ≡ m → (e : EvaluatorState) → e ≡ start_of m os → n ≡ e.system
same_system m n os same e is = same ∙ ap (λ (s : EvaluatorState). s.system) (sym is)

pub returns : goal.returns
returns c = c.new-3.ensures ∙ made (arc_value c.args.system.now) (arc_value c.in_ok-plan.plan) c.args.oracles.items c.in_ok-mesh.mesh.state c.in_ok-mesh.ensures.state (c.in_ok-plan.ensures.ok ∙ (c.in_ok-of.ensures ∙ c.in_ok-clone.ensures.cases))
