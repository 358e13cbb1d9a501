-- What is tested of a certificate part by part.
use Rattle.std.specs.Prelude.{◌≡◌, ℕ, zero, suc, ◌+◌, Bool, true, false, IsTrue, ◌↔◌, List, Option, Some, None, slice_get}
use Rattle.std.specs.List.{AllZip}
use Rattle.mcs_sets.specs.Sets.{has, minus, members}
use Rattle.mcs_base.specs.Listings.{IsAmong, AreApart}
use Rattle.mcs_system.specs.Plain.{Name, Formula, Item}
use Rattle.mcs_trace.specs.Clauses.{ClauseList}
use Rattle.mcs_cnf.specs.ClauseLists.{clause_list}
use Rattle.mcs_cnf.specs.Entailments.{Entailment}
use Rattle.mcs_cnf.specs.Classical.{AreShown}
use Rattle.mcs_evidence.specs.Defaults.{Absence, Unsupported, Blocked, Verdict, Fails, Applied, Ungrounded, Extension, facts_of, generated, defaults_in, all_defaults, negated_justs, AreDenied, IsAbsent, AreGrounded, IsAcceptedVerdict, ShowsView}
use Rattle.mcs_extensions.specs.declared.verdict.Judged as code
use Rattle.mcs_extensions.specs.declared.verdict.Judged.TheVariants as variants

-- what stands in a list at a number that is counted from 1
abbrev pub at_number : {A : Type 0} → List A → ℕ → Option A
at_number xs zero = None
at_number xs (suc k) = slice_get xs k

-- the number, counted from 1, is that of a member
abbrev pub IsNumberIn : ℕ → ℕ → Type 0
IsNumberIn set number = (k : ℕ) × (number ≡ k + 1) × IsTrue (has set k)

-- the numbers of the members, each once
abbrev pub AreNumbersOf : ℕ → List ℕ → Type 0
AreNumbersOf set order = AreApart order × ((number : ℕ) → IsAmong number order ↔ IsNumberIn set number)

-- each default outside the set is shown to be unsupported or blocked by the formulas
abbrev pub AreAbsent : List Name → List Item → List Formula → List ℕ → List Absence → Type 0
AreAbsent names items fs places absences = AllZip (λ k absence. IsAbsent names items fs (k + 1) absence) places absences

-- these formulas are what the set generates, and these are their clauses
pub record AreGenerated (names : List Name) (items : List Item) (set : ℕ) (known : ClauseList) (fs : List Formula) : Type 0 where
  pub are : fs ≡ generated items set
  pub made : known ≡ clause_list names fs

-- what is shown of a set that generates an extension beside the order in which its defaults apply
pub record IsComplete (names : List Name) (items : List Item) (fs beliefs : List Formula) (set : ℕ) (justs : List Entailment) (outside : List Absence) (outputs : List Entailment) (places : ℕ) : Type 0 where
  pub allowed : AreDenied names fs (negated_justs (defaults_in items set)) justs
  pub complete : AreAbsent names items fs (members (minus (all_defaults items) set)) outside
  pub shown : AreShown names fs beliefs places outputs

-- the verdict is refused; or it is accepted, and then shows no view, or this one
abbrev pub IsVerdictJudged : List Name → List Item → List Formula → ℕ → Verdict → code.Judged → Type 0
IsVerdictJudged names items beliefs set v variants.Refused = ¬ IsAcceptedVerdict names items beliefs set v
IsVerdictJudged names items beliefs set v variants.Passed = IsAcceptedVerdict names items beliefs set v × ((places : ℕ) → ¬ ShowsView names items beliefs set v places)
IsVerdictJudged names items beliefs set v (variants.Shows view) = ShowsView names items beliefs set v view

-- the number that an absence tells
abbrev pub number_in : Absence → ℕ
number_in (Unsupported n e) = n
number_in (Blocked n j e) = n

-- where the verdict tells an order in which the defaults of the set apply, the order is shown; this serves for no verdict that they are not grounded
abbrev pub IsOrderShown : List Name → List Item → ℕ → Verdict → Type 0
IsOrderShown names items set (Fails absence) = Unit {0}
IsOrderShown names items set (Applied number pre justs) = Unit {0}
IsOrderShown names items set (Ungrounded closed pres) = ⊥
IsOrderShown names items set (Extension order pres justs outside outputs) = AreNumbersOf set order × AreGrounded names items (facts_of items) order pres

abbrev pub judged_by : Bool → code.Judged
judged_by true = variants.Passed
judged_by false = variants.Refused

abbrev pub judged_as : Option ℕ → code.Judged
judged_as None = variants.Refused
judged_as (Some view) = variants.Shows view
