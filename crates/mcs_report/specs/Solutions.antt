-- The whole listing of a system: its equilibria, its minimal diagnoses and its minimal explanations; and its stages.
use Rattle.std.specs.Prelude.{◌≡◌, ℕ, zero, suc, ◌+◌, nat_lt, IsTrue, List, [], ◌∷◌, ◌++◌, length, ◌⊎◌}
use Rattle.mcs_sets.specs.Sets.{has}
use Rattle.mcs_sets.specs.Orders.{StateBefore, PairBefore}
use Rattle.mcs_base.specs.Listings.{IsAmong, IsListing}
use Rattle.mcs_base.specs.Minimal.{IsMinimal}
use Rattle.mcs_system.specs.Plain.{System}
use Rattle.mcs_system.specs.Levels.{IsNeed}
use Rattle.mcs_system.specs.Repairs.{IsExplanation}
use Rattle.mcs_system.specs.Systems.{all_rules, IsConsistent, IsProjectedEquilibrium}
use Rattle.mcs_diagnosis.specs.declared.diagnosis.Diagnosis as code
use Rattle.mcs_diagnosis.specs.Diagnoses.{AreDiagnoses, AreFoundBelow, pairs_of}
use Rattle.mcs_transversal.specs.Transversals.{IsFirstCritical}
use Rattle.mcs_report.specs.Listing.{heading, equilibrium_lines, verdict_line}
use Rattle.mcs_report.specs.Repairs.{first_alone, diagnosis_line, explanation_line, end_line}

-- a line for each diagnosis, numbered from k on
abbrev pub diagnosis_lines : System → ℕ → List code.Diagnosis → List ℕ
diagnosis_lines m k [] = []
diagnosis_lines m k (d ∷ ds) = diagnosis_line m k d ++ diagnosis_lines m (k + 1) ds

-- a line for each explanation, numbered from k on, where these are the diagnoses
abbrev pub explanation_lines : System → ℕ → List ℕ → List ℕ → List ℕ
explanation_lines m k pairs [] = []
explanation_lines m k pairs (t ∷ ts) = explanation_line m k pairs t ++ explanation_lines m (k + 1) pairs ts

-- the equilibria, and whether there are any
abbrev pub equilibria_part : System → List ℕ → List ℕ
equilibria_part m states = equilibrium_lines m 1 states ++ verdict_line (nat_lt 0 (length states))

-- the listing up to its last diagnosis, where these are the equilibria and the diagnoses
abbrev pub listing_front : System → List ℕ → List code.Diagnosis → List ℕ
listing_front m states ds = heading m ++ (equilibria_part m states ++ diagnosis_lines m 1 ds)

-- what comes after it, where these are the explanations and so many questions are needed
abbrev pub listing_rest : System → List ℕ → List code.Diagnosis → List ℕ → ℕ → List ℕ
listing_rest m states ds ts need = explanation_lines m 1 (pairs_of ds) ts ++ end_line (length states) (length ds) (length ts) need

-- the projected equilibria of the system, all of them, each once, in the order of states
abbrev pub AreEquilibria : System → List ℕ → Type 0
AreEquilibria m states = IsListing (IsProjectedEquilibrium m (all_rules m) 0) StateBefore states

-- the whole listing: all projected equilibria in the order of states, all minimal diagnoses and all minimal explanations
-- in the order of pairs, each once, with the number of the questions that the system needs
pub record IsWholeListing (m : System) (text : List ℕ) : Type 0 where
  pub states : List ℕ
  pub equilibria : AreEquilibria m states
  pub diagnoses : List code.Diagnosis
  pub repairs : AreDiagnoses m diagnoses
  pub explanations : List ℕ
  pub causes : IsListing (IsMinimal (IsExplanation m)) PairBefore explanations
  pub need : ℕ
  pub needed : IsNeed m need
  pub text_is : text ≡ listing_front m states diagnoses ++ listing_rest m states diagnoses explanations need

-- the listing up to the verdict and the diagnoses with fewer marks than the level
pub record IsListingBelow (m : System) (level : ℕ) (text : List ℕ) : Type 0 where
  pub states : List ℕ
  pub equilibria : AreEquilibria m states
  pub diagnoses : List code.Diagnosis
  pub repairs : AreFoundBelow m level diagnoses
  pub text_is : text ≡ listing_front m states diagnoses

-- the listing as far as it is known before this level: at first the heading, then the verdict and the diagnoses with fewer marks
abbrev pub IsListingUpTo : System → ℕ → List ℕ → Type 0
IsListingUpTo m zero text = text ≡ heading m
IsListingUpTo m (suc level) text = IsListingBelow m (suc level) text

-- a stage of the listing: the heading, which asks for nothing; what is known below a level; the whole
pub data IsListingStage (m : System) (text : List ℕ) : Type 0 where
  first : text ≡ heading m → IsListingStage m text
  below : (level : ℕ) → IsListingBelow m level text → IsListingStage m text
  whole : IsWholeListing m text → IsListingStage m text

-- ---- the listing without its parts
-- the verdict, where there are so many equilibria, and the end line
abbrev pub summary_text : ℕ → ℕ → ℕ → ℕ → List ℕ
summary_text equilibria diagnoses explanations need = verdict_line (nat_lt 0 equilibria) ++ end_line equilibria diagnoses explanations need

-- the verdict and the end line of the whole listing, and nothing else of it
pub record IsSummary (m : System) (text : List ℕ) : Type 0 where
  pub listing : List ℕ
  pub listed : IsWholeListing m listing
  pub text_is : text ≡ summary_text (length listed.states) (length listed.diagnoses) (length listed.explanations) listed.need

-- a stage of it: nothing, or the whole
abbrev pub IsSummaryStage : System → List ℕ → Type 0
IsSummaryStage m text = (text ≡ []) ⊎ IsSummary m text

-- ---- laws
-- a system has one whole listing
abbrev pub WholeListingsAreOne : Type 0
WholeListingsAreOne = (m : System) (text other : List ℕ) → IsWholeListing m text → IsWholeListing m other → text ≡ other

-- each stage is a front of it
abbrev pub ListingStagesAreFronts : Type 0
ListingStagesAreFronts = (m : System) (stage text : List ℕ) → IsListingStage m stage → IsWholeListing m text → (rest : List ℕ) × (stage ++ rest ≡ text)

-- and there is one
abbrev pub WholeListingsExist : Type 0
WholeListingsExist = (m : System) → (text : List ℕ) × IsWholeListing m text

-- a system has one summary
abbrev pub SummariesAreOne : Type 0
SummariesAreOne = (m : System) (text other : List ℕ) → IsSummary m text → IsSummary m other → text ≡ other

-- each stage is a front of it
abbrev pub SummaryStagesAreFronts : Type 0
SummaryStagesAreFronts = (m : System) (stage text : List ℕ) → IsSummaryStage m stage → IsSummary m text → (rest : List ℕ) × (stage ++ rest ≡ text)

-- and there is one
abbrev pub SummariesExist : Type 0
SummariesExist = (m : System) → (text : List ℕ) × IsSummary m text

-- a consistent system has the empty diagnosis alone, and no explanation
abbrev pub ConsistentListingsExplainNothing : Type 0
ConsistentListingsExplainNothing = (m : System) (text : List ℕ) (w : IsWholeListing m text) → IsConsistent m → (pairs_of w.diagnoses ≡ 0 ∷ []) × (w.explanations ≡ [])

-- where there is no diagnosis, there is the empty explanation alone
abbrev pub ListingsWithoutDiagnoses : Type 0
ListingsWithoutDiagnoses = (m : System) (text : List ℕ) (w : IsWholeListing m text) → w.diagnoses ≡ [] → w.explanations ≡ 0 ∷ []

-- each mark of an explanation is shown with the number of a diagnosis, the first one that the explanation meets in this mark alone
abbrev pub ExplanationsHaveReasons : Type 0
ExplanationsHaveReasons = (m : System) (text : List ℕ) (w : IsWholeListing m text) (t k : ℕ) → IsAmong t w.explanations → IsTrue (has t k)
    → (i : ℕ) × IsFirstCritical (pairs_of w.diagnoses) t k i × (first_alone (pairs_of w.diagnoses) t k ≡ i + 1)

-- the text ends with this line
abbrev pub EndsWith : List ℕ → List ℕ → Type 0
EndsWith text line = (front : List ℕ) × (text ≡ front ++ line)

-- the last line of the whole listing
abbrev pub last_line_of : (m : System) (text : List ℕ) → IsWholeListing m text → List ℕ
last_line_of m text w = end_line (length w.states) (length w.diagnoses) (length w.explanations) w.need

-- it is the last line of the summary too
abbrev pub SummariesEndAsListings : Type 0
SummariesEndAsListings = (m : System) (summary listing : List ℕ) → IsSummary m summary → (w : IsWholeListing m listing)
    → EndsWith summary (last_line_of m listing w) × EndsWith listing (last_line_of m listing w)
