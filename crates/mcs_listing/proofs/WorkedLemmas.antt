-- What an evaluation begins with, and what the work by it leaves.
use Rattle.std.proofs.Common.{◌≡◌, ℕ, Bool, true, false, cond, List, [], ◌∷◌, map, length, slice_get, Option, Some, None, Result, refl, sym, ap, ◌∙◌, subst}
use Rattle.mcs_ports.specs.Pieces.{Device}
use Rattle.mcs_system.specs.Plain.{System}
use Rattle.mcs_states.specs.Oracles.{OracleState}
use Rattle.mcs_states.specs.Evaluators.{EvaluatorState}
use Rattle.mcs_states.specs.declared.halt.Halt.{Halt}
use Rattle.mcs_node.specs.Nodes.{NodeData}
use Rattle.mcs_mesh.specs.Players.{AreNodesOf, oracles_of}
use Rattle.mcs_mesh.specs.Rounds.{AreFresh, AreNew, EvaluationData, HasLastRound, HasShown, IsHaltOfRound, IsLastRound, evaluator_state_of}
use Rattle.mcs_work.specs.Work.{Works}
use Rattle.mcs_work.specs.declared.task.Task.{Task}
use Rattle.mcs_work.specs.declared.task.WorkStop.{WorkStop}
use Rattle.std.specs.List.{range_with_len}
use Rattle.mcs_solver.specs.Solvers.{solver_with}
use Rattle.mcs_solver.proofs.SystemSolvers.{solver_seen}
use Rattle.mcs_listing.specs.Listings.{AreSure, HaveOrigin}
use Rattle.mcs_listing.specs.Working.{Begins, HasWorked}

-- the nodes are new ones of the same oracles
pub new_nodes : (m : System) (budget : ℕ) (oracles : List OracleState) (nodes : List NodeData) → AreNew m budget oracles nodes → AreNew m budget (oracles_of nodes) nodes
new_nodes m budget oracles nodes new = record { one_each = new.one_each; oracles_are = refl; each = new.each }

-- an evaluation begins with them
pub begun_with : (m plan : System) (budget : ℕ) (oracles : List OracleState) (nodes : List NodeData) → plan ≡ m → AreNew plan budget oracles nodes → AreFresh m oracles → Begins m plan budget nodes
begun_with m plan budget oracles nodes is new fresh = record {
  plan_is = is;
  new = subst (λ (n : System). AreNew n budget (oracles_of nodes) nodes) is (new_nodes plan budget oracles nodes new);
  fresh = subst (AreFresh m) (sym new.oracles_are) fresh;
}

-- the nodes have the solvers of the system
module _ (keep : Bool) (m : System) (os : List OracleState) (are : os ≡ map (λ i. solver_with keep m i []) (range_with_len 0 (length m.contexts))) (nodes : List NodeData) (same : oracles_of nodes ≡ map (λ (x : OracleState). x) os) where
  node_solver : (i : ℕ) (o : OracleState) → slice_get (oracles_of nodes) i ≡ Some o → o ≡ solver_with keep m i []
  node_solver i o is = solver_seen keep m os are i o (ap (λ (l : List OracleState). slice_get l i) (sym same) ∙ is)

  pub nodes_sure : AreSure (oracles_of nodes)
  nodes_sure i o at = ap (λ (s : OracleState). s.holds) (node_solver i o at)

  pub nodes_keep : HaveOrigin (cond keep ([] ∷ []) []) (oracles_of nodes)
  nodes_keep i o at = ap (λ (s : OracleState). s.origin) (node_solver i o at)

-- what an evaluation leaves that was worked on
pub worked : {T : Type 0} (leaves : ℕ → System → ℕ → ℕ → List NodeData → Result ℕ Halt → T → Type 0) (plays_last plays_each : Bool) (workers : ℕ) (task : Task) (m : System) (budget : ℕ) (first : List OracleState) (e : EvaluationData)
    (nodes : List NodeData) (trail : Option T) (before now : Device) (ended : Result (Unit {0}) WorkStop)
    → Works task [] (evaluator_state_of workers m budget None None first) e.state before now ended
    → nodes ≡ e.nodes → e.state.oracles ≡ oracles_of nodes → AreNodesOf e.state.system e.state.budget nodes
    → ((level : ℕ) → e.last ≡ Some level → HasShown (leaves e.state.workers e.state.system level e.state.budget e.nodes) e.state.halt trail)
    → (e.last ≡ None → trail ≡ None) → IsHaltOfRound e.state.budget e.last e.state.halt
    → (e.state.halted ≡ false → IsLastRound e.state.system e.last e.state.done)
    → (plays_last ≡ true → e.state.halted ≡ false → HasLastRound e.state.system e.state.done e.last)
    → (plays_each ≡ true → e.state.halted ≡ false → e.last ≡ e.state.done)
    → HasWorked (leaves workers) plays_last plays_each workers task m budget first nodes trail before now ended
worked leaves plays_last plays_each workers task m budget first e nodes trail before now ended works same oracles own shown unshown halt round reaches each = record {
  worked = record { state = e.state; works = works; oracles_are = oracles };
  own = subst (λ (b : ℕ). AreNodesOf m b nodes) works.rest.budget (subst (λ (n : System). AreNodesOf n e.state.budget nodes) works.rest.system own);
  last = e.last;
  shown = λ level is. subst (λ (ns : List NodeData). HasShown (leaves workers m level budget ns) e.state.halt trail) (sym same)
      (subst (λ (b : ℕ). HasShown (leaves workers m level b e.nodes) e.state.halt trail) works.rest.budget
      (subst (λ (n : System). HasShown (leaves workers n level e.state.budget e.nodes) e.state.halt trail) works.rest.system
      (subst (λ (w : ℕ). HasShown (leaves w e.state.system level e.state.budget e.nodes) e.state.halt trail) works.rest.workers (shown level is))));
  unshown = unshown;
  halt = subst (λ (b : ℕ). IsHaltOfRound b e.last e.state.halt) works.rest.budget halt;
  round = λ going. subst (λ (n : System). IsLastRound n e.last e.state.done) works.rest.system (round going);
  reaches = λ plays going. subst (λ (n : System). HasLastRound n e.state.done e.last) works.rest.system (reaches plays going);
  each = each;
}
