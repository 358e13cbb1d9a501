-- What building a system answers, and what a system keeps.
use Rattle.std.specs.Prelude.{◌≡◌, ◌≤◌, ◌<◌, ℕ, false, Vec, slice_get, cond, List, [], ◌∷◌, length, map, Option, Some, None}
use Rattle.std.specs.List.{AllByRecursion, range_with_len}
use Rattle.std.specs.declared.alloc.Global.{Global}
use Rattle.mcs_system.specs.declared.bridge.Bridge as code_bridge
use Rattle.mcs_system.specs.declared.build.Built as code_built
use Rattle.mcs_system.specs.declared.fault.BuildFault.{BuildFault}
use Rattle.mcs_system.specs.declared.fault.BuildFault.TheVariants.{Fault, Memory}
use Rattle.mcs_system.specs.declared.fault.Flaw.{Flaw}
use Rattle.mcs_system.specs.declared.fault.Flaw.TheVariants.{UnknownContext, TwinNames, Misfits}
use Rattle.mcs_system.specs.declared.limit.Limit.{Limit}
use Rattle.mcs_system.specs.declared.limit.Limit.TheVariants.{Contexts, Bridges, RulesPerContext, Variables, InputsPerContext, AtomsPerContext, DefaultsPerContext, ItemsPerContext, Weight, FormulaSize}
use Rattle.mcs_system.specs.declared.knowledge.Context as code_context
use Rattle.mcs_system.specs.declared.known.KnownContexts.{KnownContexts}
use Rattle.mcs_system.specs.declared.parts.Kept as code_kept
use Rattle.mcs_system.specs.declared.parts.KnownReads.{KnownReads}
use Rattle.mcs_system.specs.Plain.{Name, Kb, System}
use Rattle.mcs_system.specs.Seen.{context_of, kb_of, read_of, bridge_of, system_of}
use Rattle.mcs_system.specs.Systems.{variables}
use Rattle.mcs_system.specs.Atoms.{kb_atoms, first_names}
use Rattle.mcs_system.specs.Naming.{IsNamedContext, IsSystemNamed}
use Rattle.mcs_system.specs.Faults.{has_unknown_context, has_twin_names, has_misfits, first_exceeded, exceeds, fault, fault_of, IsValid}
use Rattle.mcs_system.specs.Parts.{context_part, context_part_of, rule_part, rule_part_of}

-- the answer tells the system's fault; want of memory may come in place of any answer
abbrev pub IsFaultOf : System → BuildFault → Type 0
IsFaultOf m (Fault n l) = fault_of m ≡ Some (fault n l)
IsFaultOf m Memory = Unit {0}

-- the number by which a flaw is told
abbrev pub flaw_number : Flaw → ℕ
flaw_number UnknownContext = 2
flaw_number TwinNames = 3
flaw_number Misfits = 4

-- the first flaw that holds
abbrev pub first_flaw : System → Option Flaw
first_flaw m = cond (has_unknown_context m) (Some UnknownContext) (cond (has_twin_names m) (Some TwinNames) (cond (has_misfits m) (Some Misfits) None))

-- the limits before those that are counted over variables, these, and the limits after them
abbrev pub first_limits : List Limit
first_limits = Contexts ∷ Bridges ∷ RulesPerContext ∷ []

abbrev pub variable_limits : List Limit
variable_limits = Variables ∷ InputsPerContext ∷ AtomsPerContext ∷ []

abbrev pub last_limits : List Limit
last_limits = DefaultsPerContext ∷ ItemsPerContext ∷ Weight ∷ FormulaSize ∷ []

-- no flaw holds, and none of the first limits is exceeded
pub record PassesFirst (m : System) : Type 0 where
  pub flaws : first_flaw m ≡ None
  pub limits : first_exceeded m first_limits ≡ None

-- and none of those that are counted over variables
pub record PassesVariables (m : System) : Type 0 where
  pub first : PassesFirst m
  pub limited : first_exceeded m variable_limits ≡ None

-- ---- contexts, and the atoms of their items
-- the atoms of the items, by first occurrence, and no more than the limit
pub record IsOwnAtoms (kb : Kb) (names : List Name) : Type 0 where
  pub names_are : names ≡ first_names (kb_atoms kb)
  pub few : length names ≤ 64

-- of each context
pub record AreOwnAtoms (contexts : List code_context.Context) (own : List (Vec Name Global)) : Type 0 where
  pub names_are : map (λ v. v.items) own ≡ map (λ c. first_names (kb_atoms (kb_of c.kb))) contexts
  pub few : AllByRecursion (λ v. length v.items ≤ 64) own

-- some context has more than the limit
pub record HasManyOwnAtoms (contexts : List code_context.Context) : Type 0 where
  pub place : ℕ
  pub context : code_context.Context
  pub here : slice_get contexts place ≡ Some context
  pub many : 64 < length (first_names (kb_atoms (kb_of context.kb)))

-- the system of these contexts and rules
abbrev pub made_of : KnownContexts → List code_bridge.Bridge → System
made_of known bridges = system_of known.items.items bridges

-- the contexts are those of some system
pub record AreTested (contexts : List code_context.Context) : Type 0 where
  pub others : List code_bridge.Bridge
  pub valid : IsValid (system_of contexts others)

-- and their names are names, and these are the atoms of their items
pub record AreKnown (known : KnownContexts) : Type 0 where
  pub tested : AreTested known.items.items
  pub named : AllByRecursion IsNamedContext (map context_of known.items.items)
  pub own : AreOwnAtoms known.items.items known.atoms.items

-- ---- what is kept
-- these are the variables, not too many, and those of each rule
pub record AreKnownReads (m : System) (known : KnownReads) : Type 0 where
  pub variables_are : map read_of known.variables.items ≡ variables m
  pub few : length known.variables.items ≤ 64
  pub rules_are : map rule_part_of known.rules.items ≡ map (rule_part (variables m)) m.bridges

-- and the limit of inputs is kept
pub record AreFewReads (m : System) (known : KnownReads) : Type 0 where
  pub reads : AreKnownReads m known
  pub inputs : exceeds m InputsPerContext ≡ false

-- what is kept is of the system, and the limits that are counted over variables are kept
pub record IsGathered (known : KnownContexts) (bridges : List code_bridge.Bridge) (kept : code_kept.Kept) : Type 0 where
  pub variables_are : map read_of kept.variables.items ≡ variables (made_of known bridges)
  pub parts_are : map context_part_of kept.parts.items ≡ map (context_part (made_of known bridges)) (range_with_len 0 (length known.items.items))
  pub rules_are : map rule_part_of kept.reads.items ≡ map (rule_part (variables (made_of known bridges))) (map bridge_of bridges)
  pub limited : first_exceeded (made_of known bridges) variable_limits ≡ None

-- the system is valid, its names are names, and what is kept is of it
pub record IsSystemKept (known : KnownContexts) (bridges : List code_bridge.Bridge) (kept : code_kept.Kept) : Type 0 where
  pub valid : IsValid (made_of known bridges)
  pub named : IsSystemNamed (made_of known bridges)
  pub own : AreOwnAtoms known.items.items known.atoms.items
  pub variables_are : map read_of kept.variables.items ≡ variables (made_of known bridges)
  pub parts_are : map context_part_of kept.parts.items ≡ map (context_part (made_of known bridges)) (range_with_len 0 (length known.items.items))
  pub rules_are : map rule_part_of kept.reads.items ≡ map (rule_part (variables (made_of known bridges))) (map bridge_of bridges)

-- ---- what is built of contexts and rules
pub record IsBuiltOf (contexts : List code_context.Context) (bridges : List code_bridge.Bridge) (built : code_built.Built) : Type 0 where
  pub contexts_are : built.contexts.items.items ≡ contexts
  pub own : AreOwnAtoms built.contexts.items.items built.contexts.atoms.items
  pub gathered : IsGathered built.contexts bridges built.kept

pub record IsSystemOf (contexts : List code_context.Context) (bridges : List code_bridge.Bridge) (built : code_built.Built) : Type 0 where
  pub contexts_are : built.contexts.items.items ≡ contexts
  pub kept : IsSystemKept built.contexts bridges built.kept
