-- What is asked of a default theory that is searched.
use Rattle.std.specs.Prelude.{◌≡◌, List, Result, IfOk}
use Rattle.mcs_system.specs.Plain.{Item}
use Rattle.mcs_grounding.specs.Asked.{AreItemsOf}
use Rattle.mcs_default.specs.declared.searching.Search as search

abbrev pub IsSearchOf : List Item → search.Search → Type 0
IsSearchOf items s = AreItemsOf s.theory.now s.findings.facts items

-- the second one searches the same theory
abbrev pub IsSameTheory : search.Search → search.Search → Type 0
IsSameTheory s s' = (s'.theory ≡ s.theory) × (s'.findings.facts ≡ s.findings.facts)

-- the same theory is searched on, and what is answered is right of its items
pub record AnswersSearch {T E : Type 0} (old new : search.Search) (result : Result T E) (says : T → List Item → Type 0) : Type 0 where
  pub kept : IsSameTheory old new
  pub exact : IfOk result (λ x. (items : List Item) → IsSearchOf items old → says x items)
