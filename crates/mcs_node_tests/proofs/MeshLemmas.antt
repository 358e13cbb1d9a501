-- Oracles of which nothing was asked, and a new mesh of them.
use Rattle.std.proofs.Common.{◌≡◌, ℕ, ◌+◌, false, List, [], ◌∷◌, ◌++◌, length, map, None, Some, slice_get, Result, Ok, Err, IfOk, refl, sym, ap, subst, inl, inr, arith}
use Rattle.std.proofs.lemmas.List.{length-append}
use Rattle.std.proofs.lemmas.Option.{slice_get_within}
use Rattle.mcs_base.proofs.Lists.{map_slice_get, slice_get_push_at}
use Rattle.mcs_system.specs.Plain.{System}
use Rattle.mcs_states.specs.Oracles.{OracleState}
use Rattle.mcs_states.specs.Evaluators.{EvaluatorState}
use Rattle.mcs_node.specs.Nodes.{IsFreshOracle}
use Rattle.mcs_mesh.specs.Rounds.{AreFresh, EvaluationData, evaluator_state_of}
use Rattle.mcs_solver.specs.Solvers.{solver_of}
use Rattle.mcs_node_tests.specs.Halting.{held_by}
use Rattle.mcs_node_tests.specs.declared.halting.Halting.{Halting}
use Rattle.mcs_node_tests.specs.declared.halting.Halting.TheVariants.{Never, ByLack, ByMemory}

-- a new solver that may halt is fresh
pub held_fresh : (h : Halting) (m : System) (i : ℕ) → IsFreshOracle m i (held_by h (solver_of m i []))
held_fresh Never m i = (refl, refl, refl)
held_fresh ByLack m i = (refl, refl, refl)
held_fresh ByMemory m i = (refl, refl, refl)

pub none_fresh : (m : System) → AreFresh m []
none_fresh m i o is = let within = slice_get_within [] i o is in absurd (omega arith)

-- one more is that of the next context
pub fresh_more : (m : System) (os : List OracleState) (o : OracleState) → AreFresh m os → IsFreshOracle m (length os) o → AreFresh m (os ++ o ∷ [])
fresh_more m os o fresh own i x is = elim (slice_get_push_at os o i x is) [
  | inl before ↦ fresh i x before
  | inr here ↦ subst (λ k. IsFreshOracle m k x) (sym here.0) (subst (λ y. IsFreshOracle m (length os) y) (sym here.1) own)
]

pub length_more : (os : List OracleState) (o : OracleState) (n : ℕ) → length os ≡ n → length (os ++ o ∷ []) ≡ n + 1
length_more os o n is = omega (arith, is, length-append os (o ∷ []))

-- what they stand for is fresh
pub fresh_seen : (m : System) (os : List OracleState) → AreFresh m os → AreFresh m (map (λ (x : OracleState). x) os)
fresh_seen m os fresh i o is =
    let (x, at, same) = map_slice_get (λ (x : OracleState). x) os i o is in
    subst (λ y. IsFreshOracle m i y) same (fresh i x at)

-- a new mesh of them has played no round, and can be asked
pub new_mesh : {E : Type 0} (m : System) (budget : ℕ) (os : List OracleState) (r : Result EvaluationData E) → IfOk r (λ mesh. mesh.state ≡ evaluator_state_of 1 m budget None None os) → IfOk r (λ mesh. mesh.last ≡ None) → IfOk r (λ mesh. (mesh.last ≡ None) × (mesh.state.halted ≡ false))
new_mesh m budget os (Err e) state last = tt
new_mesh m budget os (Ok mesh) state last = (last, ap (λ (e : EvaluatorState). e.halted) state)
