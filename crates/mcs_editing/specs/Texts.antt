-- What is printed of a session: for each system that it lists a line, the whole listing of the system, and how many keys of this listing are new and how many were kept; and its stages.
use Rattle.std.specs.Prelude.{◌≡◌, ℕ, zero, suc, List, [], ◌++◌, length, Some, slice_get}
use Rattle.mcs_base.specs.Listings.{IsInventory}
use Rattle.mcs_system.specs.Plain.{System}
use Rattle.mcs_work.specs.Tasks.{IsTaskText, IsTaskStage}
use Rattle.mcs_work.specs.declared.task.Task.TheVariants.{Solve}
use Rattle.mcs_session.specs.Keys.{Key}
use Rattle.mcs_report.specs.Sessions.{list_line, answers_line, session_end_line}
use Rattle.mcs_editing.specs.Listed.{IsKeyOfFirst, IsNewKeyAt, IsKeptKeyAt}

-- the line with the numbers of the different keys of the listing of m, before which there are so many: of the new ones and of those that were kept
pub record IsAnswersLine (systems : List System) (many : ℕ) (m : System) (line : List ℕ) : Type 0 where
  pub new : List Key
  pub new_are : IsInventory (IsNewKeyAt systems many m) new
  pub kept : List Key
  pub kept_are : IsInventory (IsKeptKeyAt systems many m) kept
  pub line_is : line ≡ answers_line (length new) (length kept)

-- the listing of one of the systems, before which there are so many, with its two lines
pub record IsListed (systems : List System) (many : ℕ) (text : List ℕ) : Type 0 where
  pub system : System
  pub is_there : slice_get systems many ≡ Some system
  pub listing : List ℕ
  pub whole : IsTaskText Solve system listing
  pub line : List ℕ
  pub answers : IsAnswersLine systems many system line
  pub text_is : text ≡ list_line system (suc many) ++ (listing ++ line)

-- the first listings, so many, one after the other
abbrev pub AreListed : List System → ℕ → List ℕ → Type 0
AreListed systems zero text = text ≡ []
AreListed systems (suc many) text = (before part : List ℕ) × AreListed systems many before × IsListed systems many part × (text ≡ before ++ part)

-- the line with the number of the listings and that of their different keys
pub record IsEndLine (systems : List System) (line : List ℕ) : Type 0 where
  pub keys : List Key
  pub keys_are : IsInventory (IsKeyOfFirst systems (length systems)) keys
  pub line_is : line ≡ session_end_line (length systems) (length keys)

-- the text of a session that lists these systems
pub record IsSessionText (systems : List System) (text : List ℕ) : Type 0 where
  pub before : List ℕ
  pub listed : AreListed systems (length systems) before
  pub line : List ℕ
  pub ends : IsEndLine systems line
  pub text_is : text ≡ before ++ line

-- ---- stages
-- the first listings, so many, and of the next one its line and a text for which this holds
pub record HasBegunNext (P : System → List ℕ → Type 0) (systems : List System) (many : ℕ) (text : List ℕ) : Type 0 where
  pub before : List ℕ
  pub listed : AreListed systems many before
  pub system : System
  pub is_there : slice_get systems many ≡ Some system
  pub listing : List ℕ
  pub holds : P system listing
  pub text_is : text ≡ before ++ (list_line system (suc many) ++ listing)

-- a stage of the text: some listings and a stage of the next one, or the whole
pub data IsSessionStage (systems : List System) (text : List ℕ) : Type 0 where
  begun : (many : ℕ) → HasBegunNext (IsTaskStage Solve) systems many text → IsSessionStage systems text
  ended : IsSessionText systems text → IsSessionStage systems text
