-- The nodes of a search for the extensions of a default theory.
use Rattle.std.specs.Prelude.{List}
use Rattle.mcs_sets.specs.Sets.{Within}
use Rattle.mcs_system.specs.Plain.{Item}
use Rattle.mcs_evidence.specs.Theories.{all_of}
use Rattle.mcs_grounding.specs.Asked.{theory_defaults}
use Rattle.mcs_default.specs.Asked.{IsSearchOf}
use Rattle.mcs_default.specs.Known.{IsKnown}
use Rattle.mcs_default.specs.declared.known.Known as known
use Rattle.mcs_default.specs.declared.known.Node as node
use Rattle.mcs_default.specs.declared.searching.Search as search

-- of each theory that is searched
abbrev pub IsKnownOf : search.Search → known.Known → Type 0
IsKnownOf s e = (items : List Item) → IsSearchOf items s → IsKnown items e

-- what is taken is in all, which is of the theory's defaults, and this is known of the two
pub record IsNode (s : search.Search) (n : node.Node) : Type 0 where
  pub within : Within n.taken.set n.all.set
  pub inside : Within n.all.set (all_of (theory_defaults s.theory.now))
  pub taken : IsKnownOf s n.taken
  pub all : IsKnownOf s n.all
