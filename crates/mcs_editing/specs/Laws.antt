-- Laws of the texts of sessions: each is the contract of a function of `laws`.
use Rattle.std.specs.Prelude.{◌≡◌, ℕ, ◌≤◌, List, ◌++◌, length}
use Rattle.mcs_system.specs.Plain.{System}
use Rattle.mcs_script.specs.Edits.{Edit}
use Rattle.mcs_script.specs.Scripts.{SpellsScript}
use Rattle.mcs_editing.specs.Texts.{IsSessionText, IsSessionStage}
use Rattle.mcs_editing.specs.Sessions.{CanList, most_edits, SufficesForEach, IsShortForOne, IsSessionBefore}

-- there is one text of a session at most
abbrev pub SessionTextsAreOne : Type 0
SessionTextsAreOne = (systems : List System) (text other : List ℕ) → IsSessionText systems text → IsSessionText systems other → text ≡ other

-- and there is one
abbrev pub SessionTextsExist : Type 0
SessionTextsExist = (systems : List System) → (text : List ℕ) × IsSessionText systems text

-- each stage is a front of it
abbrev pub SessionStagesAreFronts : Type 0
SessionStagesAreFronts = (systems : List System) (stage text : List ℕ) → IsSessionStage systems stage → IsSessionText systems text → (rest : List ℕ) × (stage ++ rest ≡ text)

-- what is printed where the budget does not suffice is a stage
abbrev pub TextsBeforeAreStages : Type 0
TextsBeforeAreStages = (budget level : ℕ) (systems : List System) (text : List ℕ) → IsSessionBefore budget level systems text → IsSessionStage systems text

-- it is printed only where it does not suffice
abbrev pub TextsBeforeAreShort : Type 0
TextsBeforeAreShort = (budget level : ℕ) (systems : List System) (text : List ℕ) → IsSessionBefore budget level systems text → IsShortForOne budget systems

-- and a budget that suffices for each listing is short for none
abbrev pub BudgetsSufficeOrNot : Type 0
BudgetsSufficeOrNot = (budget : ℕ) (systems : List System) → SufficesForEach budget systems → ¬ IsShortForOne budget systems

-- which text, and which level, is decided by the budget
abbrev pub TextsBeforeAreOne : Type 0
TextsBeforeAreOne = (budget level level' : ℕ) (systems : List System) (text text' : List ℕ) → IsSessionBefore budget level systems text → IsSessionBefore budget level' systems text'
    → (level ≡ level') × (text ≡ text')

-- the edits that a script spells can be listed, if it is not longer than a script may be
abbrev pub ScriptsCanBeListed : Type 0
ScriptsCanBeListed = (m : System) (bytes : List ℕ) (edits : List Edit) → SpellsScript m bytes edits → length bytes ≤ most_edits → CanList m edits
