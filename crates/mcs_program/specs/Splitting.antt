-- The views of all models of formulas, which are found by splitting on one belief after the other.
use Rattle.std.specs.Prelude.{◌≡◌, ℕ, ◌<◌, cond, Bool, IsTrue, ◌⊎◌, List, Option, Some, None, slice_get}
use Rattle.mcs_sets.specs.Sets.{has}
use Rattle.mcs_sets.specs.Orders.{StateBefore}
use Rattle.mcs_base.specs.Listings.{IsAmong, IsAscending}
use Rattle.mcs_system.specs.Plain.{Name, Formula, Not}
use Rattle.mcs_system.specs.Logic.{holds, holds_all, true_names, Atoms}
use Rattle.mcs_system.specs.Views.{Shows}
use Rattle.mcs_cnf.specs.Entailments.{IsModelAt}

-- the formula is true, or it is false
abbrev pub value_formula : Formula → Bool → Formula
value_formula f value = cond value f (Not f)

-- a model of the formulas shows this of the beliefs
pub record IsModelView (names : List Name) (beliefs fs : List Formula) (view : ℕ) : Type 0 where
  pub model : ℕ
  pub is : IsModelAt names fs model
  pub shows : Shows (Atoms (true_names 0 names model)) beliefs view

-- what is found for formulas: what a model shows, or that they have none
abbrev pub IsViewFoundFor : List Name → List Formula → List Formula → Option ℕ → Type 0
IsViewFoundFor names beliefs fs None = (a : List Name) → ¬ IsTrue (holds_all a fs)
IsViewFoundFor names beliefs fs (Some view) = IsModelView names beliefs fs view

-- all models have the first beliefs, so many, as the view has them
abbrev pub AgreeWith : List Formula → List Formula → ℕ → ℕ → Type 0
AgreeWith beliefs fs view decided = (a : List Name) → IsTrue (holds_all a fs) → (k : ℕ) (p : Formula) → k < decided → slice_get beliefs k ≡ Some p → holds a p ≡ has view k

-- to the views those of all models of the formulas are added, and no others
pub record AreModelViewsAdded (names : List Name) (beliefs fs : List Formula) (old new : List ℕ) : Type 0 where
  pub kept : (x : ℕ) → IsAmong x old → IsAmong x new
  pub found : (x : ℕ) → IsAmong x new → IsAmong x old ⊎ IsModelView names beliefs fs x
  pub all : (a : List Name) (x : ℕ) → IsTrue (holds_all a fs) → Shows (Atoms a) beliefs x → IsAmong x new

-- the views of all models, and no others, each once and in the order of states
pub record AreModelViews (names : List Name) (beliefs fs : List Formula) (views : List ℕ) : Type 0 where
  pub ascending : IsAscending StateBefore views
  pub found : (x : ℕ) → IsAmong x views → IsModelView names beliefs fs x
  pub all : (a : List Name) (x : ℕ) → IsTrue (holds_all a fs) → Shows (Atoms a) beliefs x → IsAmong x views
