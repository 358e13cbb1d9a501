-- Rounds: what is said of the node of a context in a round of one level, and the rule that each node keeps.
use Rattle.std.specs.Prelude.{◌≡◌, ℕ, ◌<◌, ◌≤◌, Bool, true, false, List, [], length, Option, Some, None}
use Rattle.mcs_base.specs.Listings.{IsAmong, IsInventory}
use Rattle.mcs_system.specs.Plain.{System}
use Rattle.mcs_system.specs.Imports.{IsImportOrder, supplied}
use Rattle.mcs_system.specs.Levels.{IsQuestionAt}
use Rattle.mcs_states.specs.Evaluators.{IsJournalQuestion}
use Rattle.mcs_states.specs.declared.halt.Halt.{Halt}
use Rattle.mcs_states.specs.declared.halt.Halt.TheVariants.{Spent, Missing, Memory}

-- context j supplies context i: i imports it, and it stands before i in the import order
abbrev pub Supplies : System → ℕ → ℕ → Type 0
Supplies m j i = (order : List ℕ) × IsImportOrder m order × (i < length m.contexts) × IsAmong j (supplied m order i)

-- a letter but for what it says
pub record Stamp : Type 0 where
  pub level : ℕ
  -- the contexts of the node that sends it and of the node that it is addressed to
  pub from : ℕ
  pub to : ℕ
  -- whether it is a stop; else it is a supply
  pub stop : Bool

abbrev pub stamp : ℕ → ℕ → ℕ → Bool → Stamp
stamp level i j stop = record { level = level; from = i; to = j; stop = stop }

-- a round of one level
pub record Round : Type 0 where
  pub system : System
  pub level : ℕ
  -- the most questions of the level that may be asked
  pub budget : ℕ
  -- the greatest level done before the round
  pub before : Option ℕ

-- what is said of a node in a round
pub record NodeState : Type 0 where
  -- whether it has begun the round
  pub begun : Bool
  -- the stamps that it has had, in order
  pub had : List Stamp
  -- the total that it was granted: the number of questions asked before the round and by the nodes granted so far, its own among them
  pub granted : Option ℕ
  -- the stamps that it has put out, in order
  pub put_out : List Stamp
  -- whether all questions to its context were asked
  pub done : Bool
  -- why it stopped
  pub halt : Option Halt
  -- whether it stopped by itself, and not by a letter
  pub by_itself : Bool

-- the set x of rules is a question of the round to context i, and was not asked before
abbrev pub IsNewQuestion : Round → ℕ → ℕ → Type 0
IsNewQuestion r i x = IsQuestionAt r.system r.level i x × (¬ IsJournalQuestion r.system r.before i x)

-- ---- letters of the round
-- x is the supply of a context that supplies i
abbrev pub IsSupplyTo : Round → ℕ → Stamp → Type 0
IsSupplyTo r i x = (j : ℕ) × Supplies r.system j i × (x ≡ stamp r.level j i false)

-- x goes from i to a context that i supplies
abbrev pub IsSentBy : Round → ℕ → Bool → Stamp → Type 0
IsSentBy r i stop x = (j : ℕ) × Supplies r.system i j × (x ≡ stamp r.level i j stop)

-- ---- the rule of a node
abbrev pub HasNoStop : List Stamp → Type 0
HasNoStop had = (x : Stamp) → IsAmong x had → x.stop ≡ false

-- it was granted a total that is at most the budget
abbrev pub IsGrantedWithin : Round → Option ℕ → Type 0
IsGrantedWithin r granted = (total : ℕ) × (granted ≡ Some total) × (total ≤ r.budget)

-- why the node of context i stops by itself: it was granted more than the budget, its oracle lacks a question, or memory ran out
abbrev pub IsOwnHalt : Round → ℕ → Option ℕ → Halt → Type 0
IsOwnHalt r i granted (Spent level total) = (level ≡ r.level) × (granted ≡ Some total) × (r.budget < total)
IsOwnHalt r i granted (Missing context x) = (context ≡ i) × IsGrantedWithin r granted × IsNewQuestion r i x
IsOwnHalt r i granted Memory = Unit {0}

-- it waits for letters, or for its grant: it has put out nothing
pub record Waits (s : NodeState) : Type 0 where
  pub granted : s.granted ≡ None
  pub no_stop : HasNoStop s.had
  pub put_out : s.put_out ≡ []
  pub done : s.done ≡ false
  pub halt : s.halt ≡ None
  pub by_itself : s.by_itself ≡ false

-- it has had every supply and was granted a total within the budget: it is done, and has put out its supplies
pub record Finishes (r : Round) (i : ℕ) (s : NodeState) : Type 0 where
  pub granted : IsGrantedWithin r s.granted
  pub had : IsInventory (IsSupplyTo r i) s.had
  pub put_out : IsInventory (IsSentBy r i false) s.put_out
  pub done : s.done ≡ true
  pub halt : s.halt ≡ None
  pub by_itself : s.by_itself ≡ false

-- a letter has stopped it, before it was granted anything: it has put out a stop in the place of each supply
pub record IsStopped (r : Round) (i : ℕ) (s : NodeState) : Type 0 where
  pub letter : Stamp
  pub had : IsAmong letter s.had
  pub stop : letter.stop ≡ true
  pub granted : s.granted ≡ None
  pub put_out : IsInventory (IsSentBy r i true) s.put_out
  pub done : s.done ≡ false
  pub cause : Halt
  pub halt : s.halt ≡ Some cause
  pub by_itself : s.by_itself ≡ false

-- it has stopped by itself: it has put out a stop in the place of each supply
pub record Stops (r : Round) (i : ℕ) (s : NodeState) : Type 0 where
  pub put_out : IsInventory (IsSentBy r i true) s.put_out
  pub done : s.done ≡ false
  pub cause : Halt
  pub own : IsOwnHalt r i s.granted cause
  pub halt : s.halt ≡ Some cause
  pub by_itself : s.by_itself ≡ true

-- what the node of context i has put out, whether it is done, its halt and whether it stopped by itself, by what it had and was granted
pub data ObeysRule (r : Round) (i : ℕ) (s : NodeState) : Type 0 where
  waits : Waits s → ObeysRule r i s
  finishes : Finishes r i s → ObeysRule r i s
  is_stopped : IsStopped r i s → ObeysRule r i s
  stops : Stops r i s → ObeysRule r i s
