-- What a session prints within a budget of questions for each listing, and why it stops.
use Rattle.std.specs.Prelude.{◌≡◌, ℕ, ◌<◌, ◌≤◌, List, length, Some, slice_get, Option, Result, OnOk, IfErr, IsErrOf}
use Rattle.mcs_ports.specs.Causes.{Rose}
use Rattle.mcs_ports.specs.Pieces.{Device}
use Rattle.mcs_system.specs.Plain.{System}
use Rattle.mcs_work.specs.declared.task.Task.TheVariants.{Solve}
use Rattle.mcs_listing.specs.Listings.{Suffices, IsShort, IsListedBefore, Prints, PrintsFront}
use Rattle.mcs_listing.specs.declared.ending.Stop.{Stop}
use Rattle.mcs_listing.specs.declared.ending.Stop.TheVariants as stops
use Rattle.mcs_script.specs.Edits.{Edit, AreAllowed}
use Rattle.mcs_editing.specs.Texts.{HasBegunNext, IsSessionText, IsSessionStage}

-- ---- what can be listed
-- the most edits of a script
abbrev pub most_edits : ℕ
most_edits = 1048576

-- the edits are allowed, one after the other, and not too many
pub record CanList (m : System) (edits : List Edit) : Type 0 where
  pub allowed : AreAllowed m edits
  pub few : length edits ≤ most_edits

-- ---- the budget
-- it suffices for the first listings, so many
abbrev pub SufficesForFirst : ℕ → List System → ℕ → Type 0
SufficesForFirst budget systems many = (place : ℕ) (m : System) → place < many → slice_get systems place ≡ Some m → Suffices Solve budget m

-- for each of them
abbrev pub SufficesForEach : ℕ → List System → Type 0
SufficesForEach budget systems = (place : ℕ) (m : System) → slice_get systems place ≡ Some m → Suffices Solve budget m

-- there is one for which it does not
pub record IsShortForOne (budget : ℕ) (systems : List System) : Type 0 where
  pub place : ℕ
  pub system : System
  pub is_there : slice_get systems place ≡ Some system
  pub short : IsShort Solve budget system

-- ---- what is printed
-- the text of the session, for which the budget suffices
abbrev pub IsSessionWithin : ℕ → List System → List ℕ → Type 0
IsSessionWithin budget systems text = SufficesForEach budget systems × IsSessionText systems text

-- What is printed where it does not: the listings before the first one for which it does not suffice, and of this one the line and what is printed before the level, the least one that has more questions than the budget.
pub record IsSessionBefore (budget level : ℕ) (systems : List System) (text : List ℕ) : Type 0 where
  pub many : ℕ
  pub within : SufficesForFirst budget systems many
  pub next : HasBegunNext (λ m listing. IsListedBefore Solve budget level listing m) systems many text

-- ---- the work
-- why it stops, and what was written then
abbrev pub StopsSession : Stop → ℕ → List System → Type 0 → Option (List ℕ) → Option (List ℕ) → Type 0
StopsSession stops.Usage budget systems sink_rose before now = ⊥
StopsSession (stops.Refused why) budget systems sink_rose before now = ⊥
StopsSession (stops.Unfinished level limit) budget systems sink_rose before now = (limit ≡ budget) × Prints (IsSessionBefore budget level systems) before now
StopsSession stops.ReadFault budget systems sink_rose before now = ⊥
StopsSession stops.WriteFault budget systems sink_rose before now = sink_rose × PrintsFront (IsSessionStage systems) before now
StopsSession stops.Memory budget systems sink_rose before now = PrintsFront (IsSessionStage systems) before now

-- the session was printed, or its work stopped; no write failed unless that is told, and nothing was noted
pub record ListsSystems (budget : ℕ) (systems : List System) (before now : Device) (r : Result (Unit {0}) Stop) : Type 0 where
  pub later : before.faults ≤ now.faults
  pub unfailed : ¬ IsErrOf r stops.WriteFault → now.faults ≡ before.faults
  pub notes : now.notes ≡ before.notes
  pub done : OnOk r (Prints (IsSessionWithin budget systems) before.written now.written)
  pub stop : IfErr r (λ stop. StopsSession stop budget systems (Rose before.faults now.faults) before.written now.written)
