-- What a node keeps of its round, and what holds of it.
use Rattle.std.specs.Prelude.{◌≡◌, ℕ, ◌<◌, ◌≤◌, Bool, true, false, cond, List, [], map, length, take, Option, Some, None, slice_get, slice_set, vec_capacity, ◌++◌, ◌∷◌, ◌⊎◌}
use Rattle.std.specs.List.{AllByRecursion}
use Rattle.std.specs.Arc.{arc_value}
use Rattle.mcs_base.specs.Listings.{IsAmong, AreApart, IsListing}
use Rattle.mcs_sets.specs.Orders.{StateBefore}
use Rattle.mcs_system.specs.Plain.{System}
use Rattle.mcs_system.specs.Imports.{IsImportOrder, supplied}
use Rattle.mcs_system.specs.Levels.{IsQuestionAt, MaySupply}
use Rattle.mcs_states.specs.Oracles.{OracleState}
use Rattle.mcs_import.specs.Plans.{AreSupplies}
use Rattle.mcs_states.specs.declared.halt.Halt.{Halt}
use Rattle.mcs_states.specs.declared.halt.Halt.TheVariants.{Memory}
use Rattle.mcs_node.specs.Rounds.{NodeState, Round, Stamp, Supplies, IsOwnHalt, stamp}
use Rattle.mcs_node.specs.Configurations.{new_node}
use Rattle.mcs_node.specs.Letters.{ContentData, LetterData, Supply, Stop, IsTrueContent, IsTrueHalt, is_stop, shared_states}
use Rattle.mcs_node.specs.Known.{HasAsked, IsKnown, IsKnownAt, Knowledge}
use Rattle.mcs_node.specs.Nodes.{IsAbove, letters_to, stamps_to}
use Rattle.mcs_node.specs.declared.round.Had as had_code
use Rattle.mcs_node.specs.declared.round.Stage as stage_code
use Rattle.mcs_node.specs.declared.round.Stage.TheVariants.{Waits, Done, Stopped}
use Rattle.mcs_node.specs.declared.round.InRound as code

-- ---- what is said of it
abbrev pub froms : List had_code.Had → List ℕ
froms had = map (λ (h : had_code.Had). h.from) had

abbrev pub stamps_had : ℕ → ℕ → List had_code.Had → List Stamp
stamps_had level i had = map (λ (h : had_code.Had). stamp level h.from i h.stop) had

abbrev pub granted_in : stage_code.Stage → Option ℕ
granted_in Waits = None
granted_in (Done total) = Some total
granted_in (Stopped granted halt by_itself) = granted

abbrev pub put_out_in : ℕ → ℕ → List ℕ → stage_code.Stage → List Stamp
put_out_in level i receivers Waits = []
put_out_in level i receivers (Done total) = stamps_to level i false receivers
put_out_in level i receivers (Stopped granted halt by_itself) = stamps_to level i true receivers

abbrev pub done_in : stage_code.Stage → Bool
done_in Waits = false
done_in (Done total) = true
done_in (Stopped granted halt by_itself) = false

abbrev pub halt_in : stage_code.Stage → Option Halt
halt_in Waits = None
halt_in (Done total) = None
halt_in (Stopped granted halt by_itself) = Some halt

abbrev pub by_itself_in : stage_code.Stage → Bool
by_itself_in Waits = false
by_itself_in (Done total) = false
by_itself_in (Stopped granted halt by_itself) = by_itself

abbrev pub state_in : ℕ → List ℕ → Option code.InRound → NodeState
state_in i receivers None = new_node
state_in i receivers (Some r) = record {
  begun = true;
  had = stamps_had r.level i r.had.items;
  granted = granted_in r.stage;
  put_out = put_out_in r.level i receivers r.stage;
  done = done_in r.stage;
  halt = halt_in r.stage;
  by_itself = by_itself_in r.stage;
}

abbrev pub level_in : Option code.InRound → Option ℕ
level_in None = None
level_in (Some r) = Some r.level

-- the letters to the contexts js, once they were put out
abbrev pub letters_in : System → ℕ → ℕ → List ℕ → List ℕ → stage_code.Stage → List LetterData
letters_in m level i js supplies Waits = []
letters_in m level i js supplies (Done total) = letters_to m level i (Supply supplies) js
letters_in m level i js supplies (Stopped granted halt by_itself) = letters_to m level i (Stop halt) js

-- there is an envelope for each that was not handed out yet, those to the first of the receivers
abbrev pub outbox_in : System → ℕ → List ℕ → List ℕ → Option code.InRound → List LetterData
outbox_in m i receivers supplies None = []
outbox_in m i receivers supplies (Some r) = letters_in m r.level i (take (length r.envelopes.items) receivers) supplies r.stage

-- what the oracle stands for; it is away while its questions are asked
abbrev pub no_oracle : OracleState
no_oracle = record { system = record { contexts = []; bridges = [] }; context = 0; journal = []; holds = None; origin = [] }

abbrev pub oracle_in : {O : Type 0} → (O → OracleState) → Option O → OracleState
oracle_in stands None = no_oracle
oracle_in stands (Some o) = stands o

-- ---- what holds of it
-- each letter had is from a context that supplies i, at most one from each, and there is room for the others
pub record AreHad (m : System) (i : ℕ) (r : code.InRound) : Type 0 where
  pub apart : AreApart (froms r.had.items)
  pub each_supplies : (j : ℕ) → IsAmong j (froms r.had.items) → Supplies m j i
  pub places : (order : List ℕ) → IsImportOrder m order → length r.told.items ≡ length (supplied m order i)
  pub room : length r.told.items ≤ vec_capacity r.had

-- each supply had is kept at the place of its sender
pub record AreTold (m : System) (i : ℕ) (r : code.InRound) : Type 0 where
  pub no_stop : (h : had_code.Had) → IsAmong h r.had.items → h.stop ≡ false
  pub told : (order : List ℕ) (p j : ℕ) (xs : List ℕ) → IsImportOrder m order → slice_get (supplied m order i) p ≡ Some j
      → slice_get (map shared_states r.told.items) p ≡ Some xs → IsAmong j (froms r.had.items) → IsListing (MaySupply m r.level j) StateBefore xs

-- every supply was had
abbrev pub HasEach : code.InRound → Type 0
HasEach r = length r.had.items ≡ length r.told.items

-- it waits for its grant
abbrev pub IsReady : code.InRound → Type 0
IsReady r = (r.stage ≡ Waits) × HasEach r

-- the round of the level as it begins: nothing was had, and there is room and there are envelopes
pub record IsBegun (m : System) (i level letters : ℕ) (r : code.InRound) : Type 0 where
  pub level_is : r.level ≡ level
  pub none_had : r.had.items ≡ []
  pub waits : r.stage ≡ Waits
  pub places : (order : List ℕ) → IsImportOrder m order → length r.told.items ≡ length (supplied m order i)
  pub room : length r.told.items ≤ vec_capacity r.had
  pub questions : length r.told.items ≡ 0 → IsListing (IsQuestionAt m level i) (λ a b. a < b) r.questions.items
  pub envelopes : AllByRecursion (λ envelope. arc_value envelope ≡ m) r.envelopes.items
  pub count : length r.envelopes.items ≡ letters

-- the greatest level at which a node is done
abbrev pub level_done : Option code.InRound → Option ℕ → Option ℕ
level_done None before = before
level_done (Some r) before = cond (done_in r.stage) (Some r.level) before

-- it waits for letters, or for its grant, for which it has worked out the questions
pub record IsWaiting (m : System) (i : ℕ) (o : OracleState) (receivers : List ℕ) (k : Knowledge) (before : Option ℕ) (r : code.InRound) : Type 0 where
  pub told : AreTold m i r
  pub known : IsKnownAt m before i k
  pub asked : HasAsked m i o k.answers
  pub whole : length r.envelopes.items ≡ length receivers
  pub questions : HasEach r → IsListing (IsQuestionAt m r.level i) (λ a b. a < b) r.questions.items

-- it is done
pub record IsDoneAt (m : System) (i budget : ℕ) (o : OracleState) (k : Knowledge) (total : ℕ) (r : code.InRound) : Type 0 where
  pub told : AreTold m i r
  pub each : HasEach r
  pub within : total ≤ budget
  pub known : IsKnown m r.level i k
  pub asked : HasAsked m i o k.answers
  pub copies : map shared_states r.copies.items ≡ map (λ envelope. k.supplies) r.envelopes.items

-- it stopped, for a reason of its own or by a letter
abbrev pub HasStopCause : Round → ℕ → List had_code.Had → Option ℕ → Halt → Bool → Type 0
HasStopCause round i had granted halt true = IsOwnHalt round i granted halt
HasStopCause round i had granted halt false = (granted ≡ None) × (h : had_code.Had) × IsAmong h had × (h.stop ≡ true)

pub record IsStoppedAt (m : System) (i budget : ℕ) (before granted : Option ℕ) (halt : Halt) (by_itself : Bool) (r : code.InRound) : Type 0 where
  pub true_halt : IsTrueHalt m r.level halt
  pub cause : HasStopCause (record { system = m; level = r.level; budget = budget; before = before }) i r.had.items granted halt by_itself

abbrev pub IsAtStage : System → ℕ → ℕ → OracleState → List ℕ → Knowledge → Option ℕ → code.InRound → stage_code.Stage → Type 0
IsAtStage m i budget o receivers k before r Waits = IsWaiting m i o receivers k before r
IsAtStage m i budget o receivers k before r (Done total) = IsDoneAt m i budget o k total r
IsAtStage m i budget o receivers k before r (Stopped granted halt by_itself) = IsStoppedAt m i budget before granted halt by_itself r

pub record IsInRound (m : System) (i budget : ℕ) (o : OracleState) (receivers : List ℕ) (k : Knowledge) (before : Option ℕ) (r : code.InRound) : Type 0 where
  pub higher : IsAbove before r.level
  pub had : AreHad m i r
  pub envelopes : AllByRecursion (λ envelope. arc_value envelope ≡ m) r.envelopes.items
  pub few : length r.envelopes.items ≤ length receivers
  pub stage : IsAtStage m i budget o receivers k before r r.stage

abbrev pub IsPlaying : System → ℕ → ℕ → OracleState → List ℕ → Knowledge → Option ℕ → Option code.InRound → Type 0
IsPlaying m i budget o receivers k before None = (before ≡ None) × (k.answers ≡ []) × HasAsked m i o k.answers
IsPlaying m i budget o receivers k before (Some r) = IsInRound m i budget o receivers k before r

-- all that holds of what a node keeps
pub record IsNode (m : System) (i budget : ℕ) (o : OracleState) (there : Bool) (receivers : List ℕ) (k : Knowledge) (before : Option ℕ) (round : Option code.InRound) : Type 0 where
  pub in_range : i < length m.contexts
  pub supplies : IsListing (Supplies m i) (λ a b. a < b) receivers
  pub present : there ≡ true
  pub own : (o.system ≡ m) × (o.context ≡ i)
  pub playing : IsPlaying m i budget o receivers k before round

-- ---- letters
-- the letter is one of the plan and the round, to context i, and none of its sender was had
pub record IsForRound (m : System) (i : ℕ) (r : code.InRound) (l : LetterData) : Type 0 where
  pub plan : l.plan ≡ m
  pub level_is : l.level ≡ r.level
  pub addressed : l.to ≡ i
  pub first : ¬ IsAmong l.from (froms r.had.items)

abbrev pub AreToldAll : System → ℕ → code.InRound → Type 0
AreToldAll m i r = (order : List ℕ) → IsImportOrder m order → AreSupplies m r.level (supplied m order i) (map shared_states r.told.items)

-- where every supply was had, the questions are worked out, or memory ran out for them; nothing else changes
pub record IsWorkedOut (m : System) (i : ℕ) (r s : code.InRound) : Type 0 where
  pub same : s ≡ record r { questions = s.questions; stage = s.stage }
  pub stage_is : (s.stage ≡ r.stage) ⊎ (s.stage ≡ Stopped None Memory true)
  pub worked : s.stage ≡ r.stage → HasEach r → IsListing (IsQuestionAt m r.level i) (λ a b. a < b) s.questions.items

-- what the content makes of where the node is, unless memory runs out: a stop stops one that waits
abbrev pub stage_with : ContentData → stage_code.Stage → stage_code.Stage
stage_with (Stop halt) Waits = Stopped None halt false
stage_with content stage = stage

-- a supply is kept at the place by a round that waits
abbrev pub told_with : ContentData → stage_code.Stage → ℕ → List (List ℕ) → List (List ℕ)
told_with (Supply states) Waits place told = slice_set told place states
told_with content stage place told = told

-- a letter with this content of the context, which is that at the place among those that supply i, may be taken: it is true, and none of its sender was had
pub record MayTake (m : System) (i place from : ℕ) (content : ContentData) (r : code.InRound) : Type 0 where
  pub low : i < length m.contexts
  pub had : AreHad m i r
  pub told : r.stage ≡ Waits → AreTold m i r
  pub fits : Supplies m from i
  pub new : ¬ IsAmong from (froms r.had.items)
  pub says : IsTrueContent m r.level from content
  pub at_place : (order : List ℕ) → IsImportOrder m order → slice_get (supplied m order i) place ≡ Some from

-- the letter was had, and what it told is kept
pub record HadIn (place from : ℕ) (content : ContentData) (r s : code.InRound) : Type 0 where
  pub had_is : s.had.items ≡ r.had.items ++ record { from = from; stop = is_stop content } ∷ []
  pub level_is : s.level ≡ r.level
  pub room : vec_capacity s.had ≡ vec_capacity r.had
  pub told_is : map shared_states s.told.items ≡ told_with content r.stage place (map shared_states r.told.items)

-- the letter was taken
pub record TookIn (m : System) (i place from : ℕ) (content : ContentData) (r s : code.InRound) : Type 0 where
  pub kept : HadIn place from content r s
  pub envelopes : s.envelopes ≡ r.envelopes
  pub copies : s.copies ≡ r.copies
  pub stage_is : (s.stage ≡ stage_with content r.stage) ⊎ ((states : List ℕ) × (content ≡ Supply states) × (r.stage ≡ Waits) × (s.stage ≡ Stopped None Memory true))
  pub questions : s.stage ≡ Waits → HasEach s → IsListing (IsQuestionAt m s.level i) (λ a b. a < b) s.questions.items

-- ---- handing out
-- what is put into the envelopes that are left
abbrev pub HasContent : System → ℕ → List ℕ → code.InRound → stage_code.Stage → Type 0
HasContent m i supplies r Waits = Unit {0}
HasContent m i supplies r (Done total) = (map shared_states r.copies.items ≡ map (λ envelope. supplies) r.envelopes.items) × IsListing (MaySupply m r.level i) StateBefore supplies
HasContent m i supplies r (Stopped granted halt by_itself) = IsTrueHalt m r.level halt

-- the envelopes are of the plan, and their letters are true
pub record MayHandOut (m : System) (i : ℕ) (receivers supplies : List ℕ) (r : code.InRound) : Type 0 where
  pub envelopes : AllByRecursion (λ envelope. arc_value envelope ≡ m) r.envelopes.items
  pub few : length r.envelopes.items ≤ length receivers
  pub fits : (j : ℕ) → IsAmong j receivers → Supplies m i j
  pub content : HasContent m i supplies r r.stage

-- there is none left, and nothing changes
abbrev pub HandsOutNone : System → ℕ → List ℕ → List ℕ → code.InRound → code.InRound → Type 0
HandsOutNone m i receivers supplies r s = (outbox_in m i receivers supplies (Some r) ≡ []) × (s ≡ r)

-- the last of those left is handed out
pub record HandsOutLast (m : System) (i : ℕ) (receivers supplies : List ℕ) (r s : code.InRound) (l : LetterData) : Type 0 where
  pub last : outbox_in m i receivers supplies (Some r) ≡ outbox_in m i receivers supplies (Some s) ++ l ∷ []
  pub same : s ≡ record r { envelopes = s.envelopes; copies = s.copies }
  pub still : MayHandOut m i receivers supplies s
