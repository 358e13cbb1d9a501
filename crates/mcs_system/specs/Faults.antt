-- Why lists of contexts and bridge rules make no system: the faults, in the order in which they are told.
use Rattle.std.specs.Prelude.{◌≡◌, ℕ, Bool, true, false, not, ◌&&◌, ◌||◌, nat_eq, nat_lt, List, [], ◌∷◌, ◌++◌, map, cond, length, count_by, Option, Some, None, slice_get}
use Rattle.std.specs.List.{list_any, range_with_len}
use Rattle.mcs_sets.specs.Sets.{size}
use Rattle.mcs_system.specs.Plain.{Name, Formula, Atom, Item, Fact, Rule, Kb, OfKind, DefaultTheory, Program, Context, Read, Bridge, System}
use Rattle.mcs_system.specs.Logic.{is_in}
pub use Rattle.mcs_system.specs.Items.{is_large, has_large_formula, is_large_rule}
use Rattle.mcs_system.specs.Kinds.{is_large_in}
use Rattle.mcs_system.specs.Systems.{variables}
use Rattle.mcs_system.specs.Rows.{inputs_of}
use Rattle.mcs_system.specs.Atoms.{atoms_of}
use Rattle.mcs_system.specs.Limits.{most}
use Rattle.mcs_system.specs.declared.limit.Limit.{Limit}
use Rattle.mcs_system.specs.declared.limit.Limit.TheVariants.{Contexts, Bridges, RulesPerContext, Variables, InputsPerContext, AtomsPerContext, DefaultsPerContext, ItemsPerContext, Weight, FormulaSize, OpenParentheses, NameBytes}

-- the reads of a rule, the positive ones first
abbrev pub reads_of : Bridge → List Read
reads_of b = b.pos ++ b.neg

-- ---- a context number is out of range
abbrev pub points_outside : ℕ → Bridge → Bool
points_outside n b = not (nat_lt b.target n) || list_any (λ (r : Read). not (nat_lt r.context n)) (reads_of b)

abbrev pub has_unknown_context : System → Bool
has_unknown_context m = list_any (points_outside (length m.contexts)) m.bridges

-- ---- two contexts, or two bridge rules, have one name
abbrev pub has_twins : List Name → Bool
has_twins [] = false
has_twins (n ∷ ns) = is_in n ns || has_twins ns

abbrev pub has_twin_names : System → Bool
has_twin_names m = has_twins (map (λ (c : Context). c.name) m.contexts) || has_twins (map (λ (b : Bridge). b.name) m.bridges)

-- ---- the head into a program or a belief of a program is not an atom, a rule weighs nothing, or a default has no justification
abbrev pub is_atom : Formula → Bool
is_atom (Atom n) = true
is_atom f = false

abbrev pub is_program : Option Context → Bool
is_program None = false
is_program (Some c) = at c.kb
  where
    at : Kb → Bool
    at (Program rules) = true
    at kb = false

abbrev pub has_misfit : List Context → Bridge → Bool
has_misfit cs b =
    nat_eq b.weight 0
    || (is_program (slice_get cs b.target) && not (is_atom b.head)
    || list_any (λ (r : Read). is_program (slice_get cs r.context) && not (is_atom r.belief)) (reads_of b))

abbrev pub is_unjustified : Item → Bool
is_unjustified (Fact f) = false
is_unjustified (Rule d) = nat_eq (length d.justs) 0

abbrev pub has_unjustified : Kb → Bool
has_unjustified (DefaultTheory items) = list_any is_unjustified items
has_unjustified kb = false

abbrev pub has_misfits : System → Bool
has_misfits m = list_any (λ (c : Context). has_unjustified c.kb) m.contexts || list_any (has_misfit m.contexts) m.bridges

-- ---- a limit is exceeded
abbrev pub is_default : Item → Bool
is_default (Fact f) = false
is_default (Rule d) = true

abbrev pub default_count : Kb → ℕ
default_count (DefaultTheory items) = count_by is_default items
default_count kb = 0

-- formulas, defaults and program rules
abbrev pub item_count : Kb → ℕ
item_count (OfKind k items) = length items

abbrev pub has_large_item : Kb → Bool
has_large_item (OfKind k items) = list_any (is_large_in k) items

abbrev pub has_large_part : Bridge → Bool
has_large_part b = is_large b.head || list_any (λ (r : Read). is_large r.belief) (reads_of b)

-- some context of the system
abbrev pub some_context : System → (ℕ → Bool) → Bool
some_context m p = list_any p (range_with_len 0 (length m.contexts))

unfoldable pub exceeds : System → Limit → Bool
exceeds m Contexts = nat_lt (most Contexts) (length m.contexts)
exceeds m Bridges = nat_lt (most Bridges) (length m.bridges)
exceeds m RulesPerContext = some_context m (λ i. nat_lt (most RulesPerContext) (count_by (λ (b : Bridge). nat_eq b.target i) m.bridges))
exceeds m Variables = nat_lt (most Variables) (length (variables m))
exceeds m InputsPerContext = some_context m (λ i. nat_lt (most InputsPerContext) (size (inputs_of m i)))
exceeds m AtomsPerContext = some_context m (λ i. nat_lt (most AtomsPerContext) (length (atoms_of m i)))
exceeds m DefaultsPerContext = list_any (λ (c : Context). nat_lt (most DefaultsPerContext) (default_count c.kb)) m.contexts
exceeds m ItemsPerContext = list_any (λ (c : Context). nat_lt (most ItemsPerContext) (item_count c.kb)) m.contexts
exceeds m Weight = list_any (λ (b : Bridge). nat_lt (most Weight) b.weight) m.bridges
exceeds m FormulaSize = list_any (λ (c : Context). has_large_item c.kb) m.contexts || list_any has_large_part m.bridges
exceeds m OpenParentheses = false
exceeds m NameBytes = false

-- the first of the limits that is exceeded
abbrev pub first_exceeded : System → List Limit → Option Limit
first_exceeded m [] = None
first_exceeded m (l ∷ ls) = cond (exceeds m l) (Some l) (first_exceeded m ls)

-- the limits of parts are a matter of the text alone
abbrev pub limits : List Limit
limits = Contexts ∷ Bridges ∷ RulesPerContext ∷ Variables ∷ InputsPerContext ∷ AtomsPerContext ∷ DefaultsPerContext ∷ ItemsPerContext ∷ Weight ∷ FormulaSize ∷ []

-- ---- the lowest number that holds, and for 5 the first limit
pub record Fault : Type 0 where
  pub number : ℕ
  pub limit : Option Limit

abbrev pub fault : ℕ → Option Limit → Fault
fault n l = record { number = n; limit = l }

abbrev pub limit_fault : Option Limit → Option Fault
limit_fault None = None
limit_fault (Some l) = Some (fault 5 (Some l))

unfoldable pub fault_of : System → Option Fault
fault_of m =
    cond (has_unknown_context m) (Some (fault 2 None))
    (cond (has_twin_names m) (Some (fault 3 None))
    (cond (has_misfits m) (Some (fault 4 None))
    (limit_fault (first_exceeded m limits))))

-- none of the faults holds
abbrev pub IsValid : System → Type 0
IsValid m = fault_of m ≡ None
