-- What accepted certificates of default theories and programs show, and that each has a listing.
use Rattle.std.specs.Prelude.{◌≡◌, ℕ, false, IsTrue, List, [], ◌∷◌}
use Rattle.std.specs.List.{list_all}
use Rattle.mcs_sets.specs.Orders.{StateBefore}
use Rattle.mcs_base.specs.Listings.{IsListing}
use Rattle.mcs_system.specs.Plain.{Name, Formula, Item, ProgramRule, DefaultTheory, Program}
use Rattle.mcs_system.specs.Logic.{is_in, reduct, satisfies, IsAnswerSet}
use Rattle.mcs_system.specs.Views.{IsAcceptedView}
use Rattle.mcs_system.specs.Faults.{has_twins}
use Rattle.mcs_cnf.specs.ClauseLists.{AreOver}
use Rattle.mcs_evidence.specs.Defaults.{Verdict, AreOverItems, IsAcceptedDefault}
use Rattle.mcs_evidence.specs.Programs.{ProgramShown, AreOverRules, AreAtomsOf, IsAcceptedProgram}
use Rattle.mcs_evidence.specs.Supports.{HasOutsideSupport, IsBased}

-- an accepted certificate of a default theory shows the listing of what it accepts
abbrev pub DefaultCertificatesAreSound : Type 0
DefaultCertificatesAreSound = (names : List Name) (items : List Item) (beliefs : List Formula) (outputs : List ℕ) (verdicts : List Verdict)
    → AreOverItems names items → AreOver names beliefs
    → IsAcceptedDefault names items beliefs outputs verdicts → IsListing (IsAcceptedView (DefaultTheory items) beliefs) StateBefore outputs

-- so does one of a program
abbrev pub ProgramCertificatesAreSound : Type 0
ProgramCertificatesAreSound = (names : List Name) (rules : List ProgramRule) (beliefs : List Formula) (outputs : List ℕ) (shown : ProgramShown)
    → has_twins names ≡ false → AreOverRules names rules → AreAtomsOf names beliefs
    → IsAcceptedProgram names rules beliefs outputs shown → IsListing (IsAcceptedView (Program rules) beliefs) StateBefore outputs

-- a set that meets an answer set has support from outside in it (loop formulas of disjunctive programs: Lee and Lifschitz 2003)
abbrev pub AnswerSetsAreSupported : Type 0
AnswerSetsAreSupported = (rules : List ProgramRule) (u a : List Name) (n : Name)
    → IsAnswerSet rules a → IsTrue (is_in n u) → IsTrue (is_in n a) → HasOutsideSupport rules u a

-- a set that satisfies its reduct is an answer set if each of its atoms has support of its own, and no positive body leads from it on without end (Fages 1994)
abbrev pub SupportedModelsAreAnswerSets : Type 0
SupportedModelsAreAnswerSets = (rules : List ProgramRule) (a : List Name)
    → IsTrue (list_all (satisfies a) (reduct a rules)) → ((n : Name) → IsTrue (is_in n a) → IsBased rules n × HasOutsideSupport rules (n ∷ []) a) → IsAnswerSet rules a

-- what a default theory accepts, seen through some beliefs, has a listing
abbrev pub DefaultTheoriesHaveAListing : Type 0
DefaultTheoriesHaveAListing = (items : List Item) (beliefs : List Formula) → (outputs : List ℕ) × IsListing (IsAcceptedView (DefaultTheory items) beliefs) StateBefore outputs

-- and what a program accepts
abbrev pub ProgramsHaveAListing : Type 0
ProgramsHaveAListing = (rules : List ProgramRule) (beliefs : List Formula) → (outputs : List ℕ) × IsListing (IsAcceptedView (Program rules) beliefs) StateBefore outputs
