-- What the events of a round make of a configuration, one after the other.
use Rattle.std.specs.Prelude.{◌≡◌, ℕ, ◌+◌, ◌<◌, true, false, List, [], ◌∷◌, ◌++◌, length, Option, Some, None, slice_get, slice_set, is_some}
use Rattle.std.specs.List.{sum_by}
use Rattle.mcs_base.specs.Listings.{IsAmong, IsListing}
use Rattle.mcs_system.specs.Plain.{System}
use Rattle.mcs_system.specs.Levels.{IsCount}
use Rattle.mcs_states.specs.declared.halt.Halt.{Halt}
use Rattle.mcs_node.specs.declared.event.Event.{Event}
use Rattle.mcs_node.specs.declared.event.Event.TheVariants.{Begin, Grant, Deliver}
use Rattle.mcs_node.specs.Rounds.{Stamp, Round, NodeState, IsNewQuestion, ObeysRule}
use Rattle.mcs_node.specs.Configurations.{Configuration, HasNode, IsHaltOfSender, AwaitsGrant}

-- ---- totals
-- n is the number of questions of the greatest level done: none where no level was done
abbrev pub WereAsked : System → Option ℕ → ℕ → Type 0
WereAsked m None n = n ≡ 0
WereAsked m (Some level) n = IsCount m level n

-- n is the need of the node of context i: the number of new questions to it
abbrev pub IsNeedOf : Round → ℕ → ℕ → Type 0
IsNeedOf r i n = (xs : List ℕ) × IsListing (IsNewQuestion r i) (λ a b. a < b) xs × (n ≡ length xs)

-- n is what the node of context i adds to a total: its need where it was granted one, else nothing
abbrev pub Adds : Round → ℕ → Option ℕ → ℕ → Type 0
Adds r i None n = n ≡ 0
Adds r i (Some total) n = IsNeedOf r i n

-- the questions asked before the round, with the needs of all nodes that were granted a total
pub record IsTotal (r : Round) (nodes : List NodeState) (total : ℕ) : Type 0 where
  pub base : ℕ
  pub asked : WereAsked r.system r.before base
  pub needs : List ℕ
  pub one_each : length needs ≡ length nodes
  pub added : (i : ℕ) (s : NodeState) (n : ℕ) → slice_get nodes i ≡ Some s → slice_get needs i ≡ Some n → Adds r i s.granted n
  pub whole : total ≡ base + sum_by (λ n. n) needs

-- ---- what an event changes
-- the letter is addressed to context i, whose node has begun and has had none of its sender
pub record Takes (i : ℕ) (s : NodeState) (x : Stamp) : Type 0 where
  pub addressed : x.to ≡ i
  pub begun : s.begun ≡ true
  pub first : (y : Stamp) → IsAmong y s.had → ¬ (y.from ≡ x.from)

-- the event is possible
abbrev pub IsPossible : Round → Configuration → Event → Type 0
IsPossible r c (Begin i) = (s : NodeState) × HasNode c i s × (s.begun ≡ false)
IsPossible r c (Grant i) = (s : NodeState) × HasNode c i s × AwaitsGrant r i s
IsPossible r c (Deliver n) = n < length c.letters

-- it delivers a letter that its addressee does not take
abbrev pub IsIgnored : Configuration → Event → Type 0
IsIgnored c (Begin i) = ⊥
IsIgnored c (Grant i) = ⊥
IsIgnored c (Deliver n) = (x : Stamp) × (slice_get c.letters n ≡ Some x) × ((s : NodeState) → HasNode c x.to s → ¬ Takes x.to s x)

-- it concerns the node of context i, and makes t of it: it begins, is granted a total, or has a letter
abbrev pub Changes : Round → Configuration → Event → ℕ → NodeState → NodeState → Type 0
Changes r c (Begin context) i s t = (context ≡ i) × (s.begun ≡ false) × (t ≡ record s { begun = true })
Changes r c (Grant context) i s t = (context ≡ i) × AwaitsGrant r i s × (total : ℕ) × IsTotal r (slice_set c.nodes i t) total × (t ≡ record s { granted = Some total })
Changes r c (Deliver n) i s t = (x : Stamp) × (slice_get c.letters n ≡ Some x) × Takes i s x × (t ≡ record s { had = s.had ++ x ∷ [] })

-- after that change the node puts out what its rule newly gives, and is u. One that is done or has a halt stays as it is; memory may run out for another. A letter that stops it tells its sender's halt.
pub record Reacts (r : Round) (c : Configuration) (i : ℕ) (t : NodeState) (new : List Stamp) (u : NodeState) : Type 0 where
  pub begun : u.begun ≡ t.begun
  pub had : u.had ≡ t.had
  pub granted : u.granted ≡ t.granted
  pub put_out : u.put_out ≡ t.put_out ++ new
  pub rule : ObeysRule r i u
  pub done_stays : t.done ≡ true → u ≡ t
  pub halt_stays : is_some t.halt ≡ true → u ≡ t
  pub halted : (halt : Halt) → u.halt ≡ Some halt → u.by_itself ≡ false → IsHaltOfSender c u.had halt

-- the event takes place: one node changes, what it puts out goes to the end of the letters, and all else stays
pub record TakesPlace (r : Round) (c : Configuration) (e : Event) (d : Configuration) : Type 0 where
  pub context : ℕ
  pub old : NodeState
  pub changed : NodeState
  pub after : NodeState
  pub new : List Stamp
  pub node : HasNode c context old
  pub changes : Changes r c e context old changed
  pub reacts : Reacts r c context changed new after
  pub nodes : d.nodes ≡ slice_set c.nodes context after
  pub letters : d.letters ≡ c.letters ++ new

-- ---- steps and runs
-- what comes of an event: it is not possible, its letter is ignored, or it takes place
pub data Outcome : Type 0 where
  Skipped : Outcome
  Ignored : Outcome
  Taken : Outcome

-- the event makes d of c; one that is skipped or ignored changes nothing
abbrev pub Step : Round → Configuration → Event → Outcome → Configuration → Type 0
Step r c e Skipped d = (¬ IsPossible r c e) × (d ≡ c)
Step r c e Ignored d = IsIgnored c e × (d ≡ c)
Step r c e Taken d = TakesPlace r c e d

-- the events make d of c, one after the other, with these outcomes
abbrev pub Runs : Round → Configuration → List Event → List Outcome → Configuration → Type 0
Runs r c [] [] d = d ≡ c
Runs r c (e ∷ es) (o ∷ os) d = (next : Configuration) × Step r c e o next × Runs r next es os d
Runs r c es os d = ⊥
