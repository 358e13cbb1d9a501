-- What an evaluation is seen as, and what it keeps of its contexts from round to round.
use Rattle.std.specs.Prelude.{◌≡◌, ℕ, ◌<◌, ◌≤◌, Bool, true, false, ◌||◌, List, [], map, length, Option, Some, None, Result, Ok, Err, slice_get, is_some, refl}
use Rattle.std.specs.Coded.{Coded, code_by, coded×, coded_ℕ, coded_list, coded_option}
use Rattle.mcs_sets.specs.Sets.{size, common, union}
use Rattle.mcs_base.specs.Pairs.{removed_of, forced_of}
use Rattle.mcs_system.specs.Plain.{System}
use Rattle.mcs_system.specs.Imports.{rules_into}
use Rattle.mcs_system.specs.Repairs.{allowed_marks}
use Rattle.mcs_states.specs.Oracles.{OracleState}
use Rattle.mcs_states.specs.Evaluators.{EvaluatorState}
use Rattle.mcs_states.specs.Codes.{coded_evaluator}
use Rattle.mcs_states.specs.declared.halt.Halt.{Halt}
use Rattle.mcs_states.specs.declared.halt.Halt.TheVariants.{Spent, Missing, Memory}
use Rattle.mcs_node.specs.Known.{IsKnown, Knowledge}
use Rattle.mcs_node.specs.Codes.{coded_node}
use Rattle.mcs_node.specs.Nodes.{NodeData, IsFreshOracle, IsNewNode}
use Rattle.mcs_node.specs.Rounds.{Round}
use Rattle.mcs_node.specs.Configurations.{Configuration, IsDone, IsQuiet, IsSound}
use Rattle.mcs_node.specs.Playing.{HaveStates}
use Rattle.mcs_mesh.specs.Players.{AreNodesOf, HaveFinished, HaveReached, oracles_of}

-- ---- what is known
-- of each context it is known what it answers at the level
abbrev pub AreKnown : System → ℕ → List Knowledge → Type 0
AreKnown m level known = (i : ℕ) (k : Knowledge) → slice_get known i ≡ Some k → IsKnown m level i k

-- the node is that of context i of the system, and is done in the round of the level
pub record IsDoneIn (m : System) (level i : ℕ) (d : NodeData) : Type 0 where
  pub plan : d.plan ≡ m
  pub context : d.context ≡ i
  pub level_is : d.level ≡ Some level
  pub done : d.state.done ≡ true

-- for each context, in order, its node, and all are done in one round, of this level or a higher one
pub record AreDone (m : System) (least : ℕ) (nodes : List NodeData) : Type 0 where
  pub one_each : length nodes ≡ length m.contexts
  pub level : ℕ
  pub no_less : least ≤ level
  pub each : (i : ℕ) (d : NodeData) → slice_get nodes i ≡ Some d → IsDoneIn m level i d

abbrev pub supplies_in : Option Knowledge → List ℕ
supplies_in None = []
supplies_in (Some k) = k.supplies

-- what these contexts may supply, in order
abbrev pub supplies_at : List Knowledge → List ℕ → List (List ℕ)
supplies_at known js = map (λ j. supplies_in (slice_get known j)) js

-- ---- levels that differ in nothing
-- the rules that a repair may remove or force
abbrev pub changeable : System → ℕ
changeable m = union (removed_of (allowed_marks m)) (forced_of (allowed_marks m))

-- no context has more than so many of them into it, so that the questions and rows of each higher level are the same
abbrev pub HasFewRules : System → ℕ → Type 0
HasFewRules m level = (i : ℕ) → i < length m.contexts → size (common (rules_into m i) (changeable m)) ≤ level

-- ---- new nodes
-- each oracle is one of its context of the system, and was asked nothing
abbrev pub AreFresh : System → List OracleState → Type 0
AreFresh m oracles = (i : ℕ) (o : OracleState) → slice_get oracles i ≡ Some o → IsFreshOracle m i o

-- for each context, in order, a new node with its oracle
pub record AreNew (m : System) (budget : ℕ) (oracles : List OracleState) (nodes : List NodeData) : Type 0 where
  pub one_each : length nodes ≡ length m.contexts
  pub oracles_are : oracles_of nodes ≡ oracles
  pub each : (i : ℕ) (d : NodeData) → slice_get nodes i ≡ Some d → IsNewNode m i budget d.oracle d

-- ---- what an evaluation is seen as
pub record EvaluationData : Type 0 where
  pub state : EvaluatorState
  -- the level of the last round that was played, if one was
  pub last : Option ℕ
  -- for each context, in order, its node
  pub nodes : List NodeData

-- by what a proof tells them apart
abbrev pub coded_evaluation : Coded EvaluationData
coded_evaluation = code_by (EvaluatorState × (Option ℕ × List NodeData)) (coded× coded_evaluator (coded× (coded_option coded_ℕ) (coded_list coded_node)))
    (λ e. (e.state, (e.last, e.nodes))) (λ t. record { state = t.0; last = t.1.0; nodes = t.1.1 }) (λ _. refl)

-- the evaluator's parts, the number of workers first
abbrev pub evaluator_state_of : ℕ → System → ℕ → Option ℕ → Option Halt → List OracleState → EvaluatorState
evaluator_state_of workers m budget done halt oracles = record { system = m; budget = budget; workers = workers; done = done; halt = halt; halted = is_some halt; oracles = oracles }

-- an evaluation's parts: it can be asked no more after a halt, and once events were replayed over its nodes
abbrev pub evaluation_of : ℕ → System → ℕ → Option ℕ → Option Halt → Bool → Option ℕ → List NodeData → EvaluationData
evaluation_of workers m budget done halt replayed last nodes = record {
  state = record { system = m; budget = budget; workers = workers; done = done; halt = halt; halted = is_some halt || replayed; oracles = oracles_of nodes };
  last = last;
  nodes = nodes;
}

-- ---- its last round
abbrev pub round_of : System → ℕ → ℕ → Option ℕ → Round
round_of m level budget before = record { system = m; level = level; budget = budget; before = before }

-- the nodes make a sound configuration of a round of the level
pub record IsSoundRound (m : System) (level budget : ℕ) (nodes : List NodeData) : Type 0 where
  -- the greatest level done before it
  pub before : Option ℕ
  pub configuration : Configuration
  pub states : HaveStates (round_of m level budget before) nodes configuration.nodes
  pub sound : IsSound (round_of m level budget before) configuration

-- the nodes of an evaluation make one; unless it has halted, nothing is left to happen, and each node is done
pub record IsLastRoundOf (e : EvaluationData) (level : ℕ) : Type 0 where
  pub round : IsSoundRound e.state.system level e.state.budget e.nodes
  pub ended : e.state.halted ≡ false → IsQuiet (round_of e.state.system level e.state.budget round.before) round.configuration × IsDone round.configuration

-- ---- what it keeps
-- the last round was of this level; the greatest level done is the same, or has no other questions and rows
abbrev pub IsLastRound : System → Option ℕ → Option ℕ → Type 0
IsLastRound m None None = Unit {0}
IsLastRound m (Some last) (Some done) = (last ≤ done) × (last < done → HasFewRules m last)
IsLastRound m last greatest = ⊥

-- where the level of all rules was done, the last round that was played was of this very level
abbrev pub HasLastRound : System → Option ℕ → Option ℕ → Type 0
HasLastRound m done last = done ≡ Some (length m.bridges) → last ≡ Some (length m.bridges)

-- a halt other than want of memory is that of the last round: where the budget was spent, it was at the level of this round, and more was found than the budget
abbrev pub IsHaltOfRound : ℕ → Option ℕ → Option Halt → Type 0
IsHaltOfRound budget last None = Unit {0}
IsHaltOfRound budget last (Some Memory) = Unit {0}
IsHaltOfRound budget None (Some (Spent at drawn)) = ⊥
IsHaltOfRound budget (Some level) (Some (Spent at drawn)) = (at ≡ level) × (budget < drawn)
IsHaltOfRound budget None (Some (Missing context active)) = ⊥
IsHaltOfRound budget (Some level) (Some (Missing context active)) = Unit {0}

-- each node has finished the last round, if one was played
abbrev pub HaveFinishedLast : Option ℕ → List NodeData → Type 0
HaveFinishedLast None nodes = Unit {0}
HaveFinishedLast (Some level) nodes = HaveFinished level nodes

-- it can be asked on: each node is done in the last round, and so many questions were asked
pub record CanGoOn (e : EvaluationData) (asked : ℕ) : Type 0 where
  pub last : IsLastRound e.state.system e.last e.state.done
  pub reached : HaveReached e.state.system e.state.budget e.last asked e.nodes
  pub finished : HaveFinishedLast e.last e.nodes

-- each context has a node, which is new where no round was played, unless it has halted
pub record IsEvaluation (e : EvaluationData) (asked : ℕ) : Type 0 where
  pub own : AreNodesOf e.state.system e.state.budget e.nodes
  pub new : e.state.halted ≡ false → e.last ≡ None → AreNew e.state.system e.state.budget (oracles_of e.nodes) e.nodes
  pub ready : e.state.halted ≡ false → CanGoOn e asked

-- ---- what its player has shown of its last round
-- the round had this total, or this halt: an evaluation that has not halted has had no halt of a round, and one that has halted after the round did so for want of memory
abbrev pub HasEndedBy : Option Halt → Result ℕ Halt → Type 0
HasEndedBy None (Ok total) = Unit {0}
HasEndedBy None (Err halt) = ⊥
HasEndedBy (Some halt) (Ok total) = halt ≡ Memory
HasEndedBy (Some halt) (Err own) = halt ≡ own

-- this was shown of it, where `leaves` says what a round leaves with a total or halt
abbrev pub HasShown : {T : Type 0} → (Result ℕ Halt → T → Type 0) → Option Halt → Option T → Type 0
HasShown {T} leaves halt shown = (trail : T) × (shown ≡ Some trail) × (total : Result ℕ Halt) × leaves total trail × HasEndedBy halt total
