-- A mesh of solvers.
use Rattle.std.proofs.Common.{◌≡◌, ℕ, false, List, map, None, Result, Ok, Err, IfOk, ap, ◌∙◌}
use Rattle.mcs_system.specs.Plain.{System}
use Rattle.mcs_states.specs.Oracles.{OracleState}
use Rattle.mcs_states.specs.Evaluators.{EvaluatorState}
use Rattle.mcs_mesh.specs.Rounds.{EvaluationData, evaluator_state_of}

-- a mesh that was made of a system can be asked
pub new_mesh : {E : Type 0} (m n : System) (budget : ℕ) (os : List OracleState) (r : Result EvaluationData E) → n ≡ m → IfOk r (λ mesh. mesh.state ≡ evaluator_state_of 1 n budget None None (map (λ (x : OracleState). x) os)) → IfOk r (λ mesh. (mesh.state.system ≡ m) × (mesh.state.done ≡ None) × (mesh.state.halted ≡ false))
new_mesh m n budget os (Err e) same h = tt
new_mesh m n budget os (Ok mesh) same h = (ap (λ (e : EvaluatorState). e.system) h ∙ same, ap (λ (e : EvaluatorState). e.done) h, ap (λ (e : EvaluatorState). e.halted) h)
