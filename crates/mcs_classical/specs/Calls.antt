-- What calls on known clauses do to them, and what they answer.
use Rattle.std.specs.Prelude.{◌≡◌, ℕ, ◌↔◌, IsTrue, List, [], ◌∷◌, Option, Result, IfOk, IfSome, OnOk, OnErr}
use Rattle.std.specs.List.{AllByRecursion}
use Rattle.mcs_sets.specs.Orders.{StateBefore}
use Rattle.mcs_base.specs.Listings.{IsListing}
use Rattle.mcs_system.specs.Plain.{Name, Formula, Classical}
use Rattle.mcs_system.specs.Logic.{Entails}
use Rattle.mcs_system.specs.Views.{IsAcceptedView}
use Rattle.mcs_trace.specs.Clauses.{ClauseList}
use Rattle.mcs_trace.specs.declared.certificate.ClassicalCert.{ClassicalCert}
use Rattle.mcs_trace.specs.declared.certificate.Entail.{Entail}
use Rattle.mcs_cnf.specs.Classical.{IsAcceptedClassical, certificate_of}
use Rattle.mcs_cnf.specs.ClauseLists.{clause_list, with_formulas, AreOver}
use Rattle.mcs_cnf.specs.Entailments.{entailment_of, says_yes, IsModelAt, IsAcceptedEntailment}
use Rattle.mcs_meant.specs.Meanings.{AreMeantBy}
use Rattle.mcs_classical.specs.Consequences.{IsUpperConsequence}
use Rattle.mcs_classical.specs.Given.{given_names, given_beliefs, with_given}
use Rattle.mcs_classical.specs.declared.bounds.Upper.{Upper}
use Rattle.mcs_classical.specs.declared.given.Given as given

-- the clauses of the formulas are added; without memory nothing is
pub record AddsOrKeeps {T E : Type 0} (names : List Name) (fs : List Formula) (old new : ClauseList) (result : Result T E) : Type 0 where
  pub ok : OnOk result (new ≡ with_formulas names old fs)
  pub err : OnErr result (new ≡ old)

-- whether the goal follows from formulas with these clauses: what shows it is accepted, and says `yes` exactly if it does
pub record AnswersGoal {E : Type 0} (names : List Name) (g : Formula) (old new : ClauseList) (result : Result Entail E) : Type 0 where
  pub kept : new ≡ old
  pub accepted : IfOk result (λ e. (fs : List Formula) → old ≡ clause_list names fs → AreOver names fs → IsAcceptedEntailment names fs g (entailment_of e))
  pub exact : IfOk result (λ e. (fs : List Formula) → old ≡ clause_list names fs → AreOver names fs → IsTrue (says_yes (entailment_of e)) ↔ Entails fs g)

-- the same of formulas of which a model may be known
pub record AnswersGoalBeside {E : Type 0} (names : List Name) (model : Option ℕ) (g : Formula) (old new : ClauseList) (result : Result Entail E) : Type 0 where
  pub kept : new ≡ old
  pub accepted : IfOk result (λ e. (fs : List Formula) → old ≡ clause_list names fs → AreOver names fs → IfSome model (IsModelAt names fs) → IsAcceptedEntailment names fs g (entailment_of e))
  pub exact : IfOk result (λ e. (fs : List Formula) → old ≡ clause_list names fs → AreOver names fs → IfSome model (IsModelAt names fs) → IsTrue (says_yes (entailment_of e)) ↔ Entails fs g)

-- the one view of the beliefs that formulas with these clauses have, with more beside them, and an accepted certificate
pub record AnswersBeliefs {E : Type 0} (names : List Name) (beliefs : List Formula) (with_more : List Formula → List Formula) (old new : ClauseList) (result : Result (ℕ × ClassicalCert) E) : Type 0 where
  pub kept : new ≡ old
  pub exact : IfOk result (λ r. (fs : List Formula) → old ≡ clause_list names fs → AreOver names fs → IsListing (IsAcceptedView (Classical (with_more fs)) beliefs) StateBefore (r.0 ∷ []))
  pub accepted : IfOk result (λ r. (fs : List Formula) → old ≡ clause_list names fs → AreOver names fs → IsAcceptedClassical names (with_more fs) beliefs (r.0 ∷ []) (certificate_of r.1))

-- a search for goals: the clauses are as before, and the upper bounds that are kept stay right
pub record Searches (g : given.Given) (old new : ClauseList) (before now : List Upper) : Type 0 where
  pub kept : new ≡ old
  pub right : (fs : List Formula) (set : ℕ) → AreMeantBy (given_names g) (with_given fs g set) old
      → AllByRecursion (IsUpperConsequence fs g.assumptions.now (given_beliefs g)) before → AllByRecursion (IsUpperConsequence fs g.assumptions.now (given_beliefs g)) now
