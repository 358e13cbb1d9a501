-- How far a session has come, what a listing leaves, and which edits wait.
use Rattle.std.specs.Prelude.{◌≡◌, ℕ, suc, ◌+◌, ◌<◌, ◌≤◌, ◌⊎◌, Bool, true, false, List, ◌++◌, drop, length, Some, slice_get, Option}
use Rattle.std.specs.List.{sum_by}
use Rattle.mcs_base.specs.Listings.{IsInventory}
use Rattle.mcs_ports.specs.Pieces.{appended}
use Rattle.mcs_system.specs.Plain.{System}
use Rattle.mcs_system.specs.Levels.{IsQuestionAt}
use Rattle.mcs_states.specs.Oracles.{OracleState}
use Rattle.mcs_states.specs.Evaluators.{unasked}
use Rattle.mcs_work.specs.Tasks.{IsLastRepairLevel, IsTaskStage}
use Rattle.mcs_work.specs.declared.task.Task.TheVariants.{Solve}
use Rattle.mcs_listing.specs.Listings.{Suffices, IsListingText, IsListedBefore, Prints, PrintsFront}
use Rattle.mcs_listing.specs.declared.ending.Stop.{Stop}
use Rattle.mcs_listing.specs.declared.ending.Stop.TheVariants as stops
use Rattle.mcs_session.specs.Keys.{Key}
use Rattle.mcs_session.specs.Sessions.{SessionState, session_of}
use Rattle.mcs_script.specs.Edits.{Edit, Added, Dropped, Listed, AreAllowed, system_after}
use Rattle.mcs_report.specs.Sessions.{list_line}
use Rattle.mcs_editing.specs.Listed.{listed_systems, IsKeyOfFirst}
use Rattle.mcs_editing.specs.Texts.{IsListed, AreListed}
use Rattle.mcs_editing.specs.Sessions.{SufficesForFirst}

-- ---- the whole listing of one system
-- each oracle was asked exactly the questions that the listing of the system takes, each once, and is otherwise as it was
pub record AreAskedWhole (m : System) (first oracles : List OracleState) : Type 0 where
  pub one_each : length oracles ≡ length m.contexts
  pub own : (i : ℕ) (o : OracleState) → slice_get oracles i ≡ Some o → (o.system ≡ m) × (o.context ≡ i)
  pub rest : unasked oracles ≡ unasked first
  pub level : ℕ
  pub last : IsLastRepairLevel m level
  pub asked : (i : ℕ) (o : OracleState) → slice_get oracles i ≡ Some o → IsInventory (IsQuestionAt m level i) o.journal

-- it was printed, and these oracles came back
pub record HasPrinted (budget : ℕ) (m : System) (first oracles : List OracleState) (before now : Option (List ℕ)) : Type 0 where
  pub text : Prints (λ text. IsListingText Solve budget text m) before now
  pub asked : AreAskedWhole m first oracles

-- ---- the keys of the first listings, so many
-- for each context its keys, each once
pub record AreKnownKeys (systems : List System) (many : ℕ) (journals : List (List Key)) : Type 0 where
  pub of_contexts : (k : Key) → IsKeyOfFirst systems many k → k.context < length journals
  pub each : (i : ℕ) (keys : List Key) → slice_get journals i ≡ Some keys → IsInventory (λ k. IsKeyOfFirst systems many k × (k.context ≡ i)) keys

abbrev pub total_of : List (List Key) → ℕ
total_of journals = sum_by (λ (keys : List Key). length keys) journals

-- the session is at home and of this system, and its journals have the keys of the first listings
pub record IsReady (systems : List System) (many : ℕ) (s : SessionState) : Type 0 where
  pub home : s.lent ≡ false
  pub one_each : length s.journals ≡ length s.system.contexts
  pub keys : AreKnownKeys systems many s.journals

-- ---- a listing with its lines
-- the most keys of a listing: those of 4096 sets of rules, for each of 64 contexts
abbrev pub most_new : ℕ
most_new = 262144

-- it was printed, and the session is ready for the next one; so many keys are new
pub record HasListedNext (budget : ℕ) (systems : List System) (many : ℕ) (s s' : SessionState) (new : ℕ) (before now : Option (List ℕ)) : Type 0 where
  pub ready : IsReady systems (suc many) s'
  pub same : s'.system ≡ s.system
  pub count : total_of s'.journals ≡ total_of s.journals + new
  pub few : new ≤ most_new
  pub within : Suffices Solve budget s.system
  pub text : Prints (IsListed systems many) before now

-- a text of its first part: its line, and a text for which this holds
abbrev pub IsBegunPart : (List ℕ → Type 0) → ℕ → System → List ℕ → Type 0
IsBegunPart P many m text = (listing : List ℕ) × P listing × (text ≡ list_line m (suc many) ++ listing)

-- a stage of it: its line and a stage of the listing, or the whole
abbrev pub IsPartStage : List System → ℕ → System → List ℕ → Type 0
IsPartStage systems many m text = IsBegunPart (IsTaskStage Solve m) many m text ⊎ IsListed systems many text

-- why it stops, and what was written then
abbrev pub StopsNext : Stop → ℕ → List System → ℕ → System → Type 0 → Option (List ℕ) → Option (List ℕ) → Type 0
StopsNext stops.Usage budget systems many m sink_rose before now = ⊥
StopsNext (stops.Refused why) budget systems many m sink_rose before now = ⊥
StopsNext (stops.Unfinished level limit) budget systems many m sink_rose before now = (limit ≡ budget) × Prints (IsBegunPart (λ listing. IsListedBefore Solve budget level listing m) many m) before now
StopsNext stops.ReadFault budget systems many m sink_rose before now = ⊥
StopsNext stops.WriteFault budget systems many m sink_rose before now = sink_rose × PrintsFront (IsPartStage systems many m) before now
StopsNext stops.Memory budget systems many m sink_rose before now = PrintsFront (IsPartStage systems many m) before now

-- ---- under way
-- the edit asks for a listing
abbrev pub is_listed : Edit → Bool
is_listed (Added b) = false
is_listed (Dropped n) = false
is_listed Listed = true

-- After so many listings, with this number of keys, these edits are left: what was printed are the listings, for which the budget sufficed.
pub record IsUnderWay (budget : ℕ) (systems : List System) (left : List Edit) (s : SessionState) (lists answers : ℕ) (before now : Option (List ℕ)) : Type 0 where
  pub ready : IsReady systems lists s
  pub next : drop lists systems ≡ listed_systems s.system left
  pub allowed : AreAllowed s.system left
  pub count : answers ≡ total_of s.journals
  pub text : List ℕ
  pub listed : AreListed systems lists text
  pub within : SufficesForFirst budget systems lists
  pub written : now ≡ appended before text

-- the session after these edits
abbrev pub after_all : SessionState → List Edit → SessionState
after_all s edits = session_of (system_after s.system edits) s.journals false

-- These edits wait for the next listing, and then others are left: the session is under way as it is after those that wait, which are allowed.
pub record IsWaiting (budget : ℕ) (systems : List System) (waiting left : List Edit) (s : SessionState) (lists answers : ℕ) (before now : Option (List ℕ)) : Type 0 where
  pub home : s.lent ≡ false
  pub waiting_allowed : AreAllowed s.system waiting
  pub under_way : IsUnderWay budget systems left (after_all s waiting) lists answers before now
