-- The search for answer sets that are listed and not shown: what it knows, what it has found, and what is left.
use Rattle.std.specs.Prelude.{◌≡◌, ℕ, ◌^◌, false, List, [], ◌∷◌, ◌++◌, length, map, Option, Some, None}
use Rattle.std.specs.List.{AllByRecursion}
use Rattle.mcs_sets.specs.Orders.{StateBefore}
use Rattle.mcs_base.specs.Listings.{IsAscending}
use Rattle.mcs_system.specs.Plain.{Name, Formula, ProgramRule, Program}
use Rattle.mcs_system.specs.Logic.{holds, holds_all, true_names, IsAnswerSet}
use Rattle.mcs_system.specs.Views.{IsAcceptedView}
use Rattle.mcs_evidence.specs.Programs.{rule_formula, other_formula}
use Rattle.mcs_evidence.specs.Supports.{support_formula}
use Rattle.mcs_meant.specs.Meanings.{AreMeantBy, AddsFormula}
use Rattle.mcs_program.specs.Searches.{count_below}
use Rattle.mcs_program.specs.declared.listing.Listing.{Listing}

-- the set of the atoms at these places has support from outside if one of them is true
abbrev pub place_formula : List ProgramRule → List Name → ℕ → Formula
place_formula rules names set = support_formula rules (true_names 0 names set)

-- the rules, and that each atom has support of its own
abbrev pub first_formulas : List Name → List ProgramRule → List Formula
first_formulas names rules = map rule_formula rules ++ map (λ n. support_formula rules (n ∷ [])) names

-- so, that sets of places have support from outside, and that the view is none of those found
abbrev pub left_formulas : List Name → List ProgramRule → List ℕ → List Formula → List ℕ → List Formula
left_formulas names rules sets beliefs views = first_formulas names rules ++ (map (place_formula rules names) sets ++ map (other_formula beliefs) views)

-- what is left of a listing
abbrev pub left_of : List Name → List ProgramRule → List Formula → Listing → List Formula
left_of names rules beliefs s = left_formulas names rules s.supported.items beliefs s.views.items

-- the clauses mean the formulas, and the views that were found are of answer sets
pub record IsPartListing (names : List Name) (rules : List ProgramRule) (beliefs : List Formula) (s : Listing) : Type 0 where
  pub known : AreMeantBy names (left_of names rules beliefs s) s.known
  pub ascending : IsAscending StateBefore s.views.items
  pub accepted : AllByRecursion (IsAcceptedView (Program rules) beliefs) s.views.items

-- a set of places of which a model of the rules makes an atom true without support from outside, or, where there is none, an answer set
abbrev pub IsUnfounded : List Name → List ProgramRule → ℕ → Option ℕ → Type 0
IsUnfounded names rules model None = IsAnswerSet rules (true_names 0 names model)
IsUnfounded names rules model (Some set) = holds (true_names 0 names model) (place_formula rules names set) ≡ false

-- one set more has support
pub record IsSupported (names : List Name) (rules : List ProgramRule) (set : ℕ) (old new : Listing) : Type 0 where
  pub known : AddsFormula names (place_formula rules names set) old.known new.known
  pub supported : new.supported.items ≡ old.supported.items ++ set ∷ []
  pub views : new.views.items ≡ old.views.items

-- how many sets of places satisfy the formulas
abbrev pub models_left : List Name → List Formula → ℕ
models_left names fs = count_below (2 ^ length names) (λ places. holds_all (true_names 0 names places) fs)
