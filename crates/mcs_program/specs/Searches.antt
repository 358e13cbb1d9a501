-- The search for the answer sets of a program: what it knows, what it has found, and what is left.
use Rattle.std.specs.Prelude.{◌≡◌, ℕ, ◌+◌, ◌<◌, ◌≤◌, ◌^◌, zero, suc, cond, Bool, IsTrue, List, [], ◌∷◌, ◌++◌, length, map, take, get_or, insert, Option, Some, None}
use Rattle.std.specs.List.{AllByRecursion, AllZip}
use Rattle.mcs_sets.specs.Orders.{StateBefore}
use Rattle.mcs_base.specs.Listings.{IsAscending}
use Rattle.mcs_system.specs.Plain.{Name, Formula, ProgramRule}
use Rattle.mcs_system.specs.Logic.{holds_all, true_names, Atoms}
use Rattle.mcs_system.specs.Views.{Shows}
use Rattle.mcs_trace.specs.Clauses.{ClauseList}
use Rattle.mcs_trace.specs.Traces.{Inference}
use Rattle.mcs_cnf.specs.Entailments.{IsModelAt}
use Rattle.mcs_evidence.specs.Programs.{model_shown_of, rest_formulas, beside_formula, other_formula, IsInRange, IsAcceptedModel}
use Rattle.mcs_meant.specs.Meanings.{AreMeantBy, AddsFormula}
use Rattle.mcs_program.specs.declared.search.Search.{Search}

-- what is found for formulas: a model, or that they have none
abbrev pub IsFoundFor : List Name → List Formula → Option ℕ → Type 0
IsFoundFor names fs None = (a : List Name) → ¬ IsTrue (holds_all a fs)
IsFoundFor names fs (Some places) = IsModelAt names fs places

-- the clauses mean the formulas of the program, of the smaller sets, and that the view is none of those found
abbrev pub IsProgramKnown : List Name → List ProgramRule → List Formula → Search → Type 0
IsProgramKnown names rules beliefs s = AreMeantBy names (rest_formulas names rules beliefs s.smaller.items s.views.items) s.known

-- the views that were found have their models
pub record IsProgramSearch (names : List Name) (rules : List ProgramRule) (beliefs : List Formula) (s : Search) : Type 0 where
  pub known : IsProgramKnown names rules beliefs s
  pub ascending : IsAscending StateBefore s.views.items
  pub models : AllZip (IsAcceptedModel names rules beliefs) s.views.items (map model_shown_of s.models.items)
  pub in_range : AllByRecursion (IsInRange names) s.smaller.items

-- one smaller set more, and its formula
pub record IsExcluded (names : List Name) (rules : List ProgramRule) (less : ℕ) (old new : Search) : Type 0 where
  pub known : AddsFormula names (beside_formula names rules less) old.known new.known
  pub smaller : new.smaller.items ≡ old.smaller.items ++ less ∷ []
  pub views : new.views.items ≡ old.views.items
  pub models : new.models.items ≡ old.models.items

-- the model's view stands among the views, behind those that come before it, and the others are to be other ones
pub record IsViewPlaced (names : List Name) (beliefs : List Formula) (model place : ℕ) (known : ClauseList) (views : List ℕ) (known' : ClauseList) (views' : List ℕ) : Type 0 where
  pub view : ℕ
  pub shows : Shows (Atoms (true_names 0 names model)) beliefs view
  pub within : place ≤ length views
  pub before : AllByRecursion (λ v. StateBefore v view) (take place views)
  pub after : place < length views → ¬ StateBefore (get_or views place 0) view
  pub adds : AddsFormula names (other_formula beliefs view) known known'
  pub placed : views' ≡ insert views place view

-- and nothing else is changed
pub record IsPlaced (names : List Name) (beliefs : List Formula) (model place : ℕ) (old new : Search) : Type 0 where
  pub viewed : IsViewPlaced names beliefs model place old.known old.views.items new.known new.views.items
  pub smaller : new.smaller.items ≡ old.smaller.items
  pub models : new.models.items ≡ old.models.items

-- and so does the model
pub record IsViewListed (names : List Name) (beliefs : List Formula) (model : ℕ) (minimal : List Inference) (old new : Search) : Type 0 where
  pub place : ℕ
  pub between : Search
  pub placed : IsPlaced names beliefs model place old between
  pub known : new.known ≡ between.known
  pub views : new.views.items ≡ between.views.items
  pub smaller : new.smaller.items ≡ between.smaller.items
  pub models : map model_shown_of new.models.items ≡ insert (map model_shown_of old.models.items) place (record { model = model; minimal = minimal })

-- how many numbers below n pass the test
unfoldable pub count_below : ℕ → (ℕ → Bool) → ℕ
count_below zero p = 0
count_below (suc n) p = cond (p n) (count_below n p + 1) (count_below n p)

-- how many sets of places satisfy all that is known
abbrev pub sets_left : List Name → List ProgramRule → List Formula → Search → ℕ
sets_left names rules beliefs s = count_below (2 ^ length names) (λ places. holds_all (true_names 0 names places) (rest_formulas names rules beliefs s.smaller.items s.views.items))

-- no assignment satisfies all that is known
abbrev pub IsExhausted : List Name → List ProgramRule → List Formula → Search → Type 0
IsExhausted names rules beliefs s = (a : List Name) → ¬ IsTrue (holds_all a (rest_formulas names rules beliefs s.smaller.items s.views.items))
