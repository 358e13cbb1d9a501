-- The lines of a listing, each with its line feed, and the listing of a system's equilibria.
use Rattle.std.specs.Prelude.{◌≡◌, ℕ, ◌+◌, Bool, cond, nat_lt, List, [], ◌∷◌, ◌++◌, length, codes, ◌⊎◌}
use Rattle.std.specs.Fmt.{decimal}
use Rattle.mcs_sets.specs.Orders.{StateBefore}
use Rattle.mcs_base.specs.Listings.{IsListing}
use Rattle.mcs_system.specs.Plain.{System}
use Rattle.mcs_system.specs.Levels.{IsCount}
use Rattle.mcs_system.specs.Systems.{variables, all_rules, applicable, IsProjectedEquilibrium}
use Rattle.mcs_report.specs.Members.{state_text, rules_text}

-- mcs 1: N contexts, R rules, V variables
unfoldable pub heading : System → List ℕ
heading m =
    codes "mcs 1: " ++ (decimal (length m.contexts) ++ (codes " contexts, " ++ (decimal (length m.bridges)
    ++ (codes " rules, " ++ (decimal (length (variables m)) ++ (codes " variables\n"))))))

-- WORD K: STATE applicable RULES
unfoldable pub state_line : List ℕ → System → ℕ → ℕ → List ℕ
state_line word m k σ =
    word ++ (decimal k ++ (codes ": " ++ (state_text m σ ++ (codes " applicable " ++ (rules_text m (applicable m σ) ++ codes "\n")))))

-- a line for each state, numbered from k on
abbrev pub state_lines : List ℕ → System → ℕ → List ℕ → List ℕ
state_lines word m k [] = []
state_lines word m k (σ ∷ σs) = state_line word m k σ ++ state_lines word m (k + 1) σs

-- equilibrium K: STATE applicable RULES
abbrev pub equilibrium_line : System → ℕ → ℕ → List ℕ
equilibrium_line m k σ = state_line (codes "equilibrium ") m k σ

abbrev pub equilibrium_lines : System → ℕ → List ℕ → List ℕ
equilibrium_lines m k σs = state_lines (codes "equilibrium ") m k σs

-- grounded K: STATE applicable RULES
abbrev pub grounded_line : System → ℕ → ℕ → List ℕ
grounded_line m k σ = state_line (codes "grounded ") m k σ

abbrev pub grounded_lines : System → ℕ → List ℕ → List ℕ
grounded_lines m k σs = state_lines (codes "grounded ") m k σs

-- whether there is an equilibrium
abbrev pub verdict_line : Bool → List ℕ
verdict_line consistent = cond consistent (codes "consistent\n") (codes "inconsistent\n")

-- end: E equilibria, need Q
unfoldable pub short_end_line : ℕ → ℕ → List ℕ
short_end_line count need = codes "end: " ++ (decimal count ++ (codes " equilibria, need " ++ (decimal need ++ codes "\n")))

-- end: G grounded of E equilibria, need Q
unfoldable pub grounded_end_line : ℕ → ℕ → ℕ → List ℕ
grounded_end_line grounded count need =
    codes "end: " ++ (decimal grounded ++ (codes " grounded of " ++ (decimal count ++ (codes " equilibria, need " ++ (decimal need ++ codes "\n")))))

-- what comes after the heading where these are the projected equilibria, and so many questions are needed
abbrev pub after_heading : System → List ℕ → ℕ → List ℕ
after_heading m states need = equilibrium_lines m 1 states ++ (verdict_line (nat_lt 0 (length states)) ++ short_end_line (length states) need)

-- what is printed then
abbrev pub equilibria_text : System → List ℕ → ℕ → List ℕ
equilibria_text m states need = heading m ++ after_heading m states need

-- the text of the system's projected equilibria, all of them, each once, in the order of states, with the number of the questions of level 0
pub record IsEquilibriaText (m : System) (text : List ℕ) : Type 0 where
  pub states : List ℕ
  pub listing : IsListing (IsProjectedEquilibrium m (all_rules m) 0) StateBefore states
  pub need : ℕ
  pub count : IsCount m 0 need
  pub text_is : text ≡ equilibria_text m states need

-- a stage of it: the heading, which asks for nothing, or the whole
abbrev pub IsEquilibriaStage : System → List ℕ → Type 0
IsEquilibriaStage m text = (text ≡ heading m) ⊎ IsEquilibriaText m text

-- ---- laws
-- a system has one such text
abbrev pub EquilibriaTextsAreOne : Type 0
EquilibriaTextsAreOne = (m : System) (text other : List ℕ) → IsEquilibriaText m text → IsEquilibriaText m other → text ≡ other

-- each stage is a front of it
abbrev pub StagesAreFronts : Type 0
StagesAreFronts = (m : System) (stage text : List ℕ) → IsEquilibriaStage m stage → IsEquilibriaText m text → (rest : List ℕ) × (stage ++ rest ≡ text)

-- and there is one
abbrev pub EquilibriaTextsExist : Type 0
EquilibriaTextsExist = (m : System) → (text : List ℕ) × IsEquilibriaText m text
