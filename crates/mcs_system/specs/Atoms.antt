-- The atoms of a context.
use Rattle.std.specs.Prelude.{ℕ, List, [], ◌++◌, map, filter, Option, Some, None, slice_get, nat_eq}
use Rattle.std.specs.List.{flat_map}
use Rattle.mcs_base.specs.Listings.{firsts}
use Rattle.mcs_system.specs.Plain.{Name, Formula, Kb, OfKind, Context, Read, Bridge, System}
pub use Rattle.mcs_system.specs.Items.{default_atoms, item_atoms, rule_atoms}
use Rattle.mcs_system.specs.Kinds.{atoms_in}
use Rattle.mcs_system.specs.Logic.{same_name, atoms}
use Rattle.mcs_system.specs.Systems.{context_variables}

abbrev pub kb_atoms : Kb → List Name
kb_atoms (OfKind k items) = flat_map (atoms_in k) items

abbrev pub own_atoms : Option Context → List Name
own_atoms None = []
own_atoms (Some c) = kb_atoms c.kb

-- the heads of all rules into the context, in rule order
abbrev pub all_heads_into : System → ℕ → List Formula
all_heads_into m i = map (λ (b : Bridge). b.head) (filter (λ (b : Bridge). nat_eq b.target i) m.bridges)

-- every occurrence: in the items, in the heads into the context, in its variables
abbrev pub atom_occurrences : System → ℕ → List Name
atom_occurrences m i = own_atoms (slice_get m.contexts i) ++ (flat_map atoms (all_heads_into m i) ++ flat_map (λ (r : Read). atoms r.belief) (context_variables m i))

-- each name where it occurs first
abbrev pub first_names : List Name → List Name
first_names names = firsts same_name names

-- the atoms of the context, by first occurrence
unfoldable pub atoms_of : System → ℕ → List Name
atoms_of m i = first_names (atom_occurrences m i)
