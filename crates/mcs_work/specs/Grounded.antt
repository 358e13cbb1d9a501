-- The listing of the grounded equilibria of a plain system.
use Rattle.std.specs.Prelude.{◌≡◌, ℕ, List, ◌++◌, length, ◌⊎◌}
use Rattle.mcs_system.specs.Plain.{System}
use Rattle.mcs_system.specs.Levels.{IsCount}
use Rattle.mcs_report.specs.Listing.{heading, grounded_lines, grounded_end_line}
use Rattle.mcs_report.specs.Solutions.{AreEquilibria}
use Rattle.mcs_reduct.specs.Grounded.{AreGrounded}
use Rattle.mcs_reduct.specs.Plain.{IsPlain}

-- what comes after the heading where these are the grounded states, of so many equilibria, and so many questions are needed
abbrev pub after_grounded : System → List ℕ → ℕ → ℕ → List ℕ
after_grounded m grounded count need = grounded_lines m 1 grounded ++ grounded_end_line (length grounded) count need

abbrev pub grounded_text : System → List ℕ → ℕ → ℕ → List ℕ
grounded_text m grounded count need = heading m ++ after_grounded m grounded count need

-- the text of the grounded states, all of them, each once, in the order of states, with the numbers of the equilibria and of the questions of level 0
pub record IsGroundedText (m : System) (text : List ℕ) : Type 0 where
  pub equilibria : List ℕ
  pub all : AreEquilibria m equilibria
  pub states : List ℕ
  pub listing : AreGrounded m states
  pub need : ℕ
  pub count : IsCount m 0 need
  pub text_is : text ≡ grounded_text m states (length equilibria) need

-- a stage of it: the heading, which asks for nothing, or the whole
abbrev pub IsGroundedStage : System → List ℕ → Type 0
IsGroundedStage m text = (text ≡ heading m) ⊎ IsGroundedText m text

-- ---- laws
-- there is at most one such text
abbrev pub GroundedTextsAreOne : Type 0
GroundedTextsAreOne = (m : System) (text other : List ℕ) → IsGroundedText m text → IsGroundedText m other → text ≡ other

-- each plain system has one
abbrev pub GroundedTextsExist : Type 0
GroundedTextsExist = (m : System) → IsPlain m → (text : List ℕ) × IsGroundedText m text

-- each stage is a front of it
abbrev pub GroundedStagesAreFronts : Type 0
GroundedStagesAreFronts = (m : System) (stage text : List ℕ) → IsGroundedStage m stage → IsGroundedText m text → (rest : List ℕ) × (stage ++ rest ≡ text)
