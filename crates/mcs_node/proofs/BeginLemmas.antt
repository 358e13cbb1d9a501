-- What is seen of a node, and what it knows.
use Rattle.std.proofs.Common.{◌≡◌, ℕ, cond, List, Option, Some, None, sym, subst}
use Rattle.mcs_system.specs.Plain.{System}
use Rattle.mcs_states.specs.Oracles.{OracleState}
use Rattle.mcs_node.specs.Nodes.{NodeData}
use Rattle.mcs_node.specs.Known.{HasAsked, IsKnownAt, Knowledge}
use Rattle.mcs_node.specs.Keeping.{IsAtStage, IsPlaying, done_in, halt_in, level_done, level_in, outbox_in, state_in}
use Rattle.mcs_node.specs.declared.round.Stage as stage_code
use Rattle.mcs_node.specs.declared.round.Stage.TheVariants.{Waits, Done, Stopped}
use Rattle.mcs_node.specs.declared.round.InRound as code

-- the node, where this is its round
abbrev pub node_in : System → ℕ → ℕ → OracleState → List ℕ → Knowledge → Option ℕ → Option code.InRound → NodeData
node_in m i budget o receivers k before round = record {
  plan = m;
  context = i;
  budget = budget;
  oracle = o;
  before = before;
  level = level_in round;
  state = state_in i receivers round;
  receivers = receivers;
  outbox = outbox_in m i receivers k.supplies round;
  known = k;
}

-- ---- what is known
module _ (m : System) (i budget : ℕ) (o : OracleState) (receivers : List ℕ) (k : Knowledge) (before : Option ℕ) where
  -- a node that has not stopped has asked what is known
  pub asked_so_far : (old : Option code.InRound) → IsPlaying m i budget o receivers k before old → (state_in i receivers old).halt ≡ None → HasAsked m i o k.answers
  asked_so_far None p going = p.2
  asked_so_far (Some r) p going = at r.stage p.stage going
    where
      at : (st : stage_code.Stage) → IsAtStage m i budget o receivers k before r st → halt_in st ≡ None → HasAsked m i o k.answers
      at Waits w going = w.asked
      at (Done total) w going = w.asked
      at (Stopped granted halt by_itself) w going = absurd (cc)

  pub known_so_far : (old : Option code.InRound) → IsPlaying m i budget o receivers k before old → (state_in i receivers old).halt ≡ None → IsKnownAt m (level_done old before) i k
  known_so_far None p going = subst (λ (g : Option ℕ). IsKnownAt m g i k) (sym p.0) p.1
  known_so_far (Some r) p going = at r.stage p.stage going
    where
      at : (st : stage_code.Stage) → IsAtStage m i budget o receivers k before r st → halt_in st ≡ None → IsKnownAt m (cond (done_in st) (Some r.level) before) i k
      at Waits w going = w.known
      at (Done total) w going = w.known
      at (Stopped granted halt by_itself) w going = absurd (cc)
