-- What a system keeps of its contexts and rules, so that no later call reads formulas again.
use Rattle.std.specs.Prelude.{ℕ, nat_eq, cond, Bool, false, List, [], length, slice_get, Option, Some, None}
use Rattle.std.specs.List.{list_any}
use Rattle.mcs_sets.specs.Sets.{such_that, union}
use Rattle.mcs_system.specs.declared.parts.ContextParts as code_parts
use Rattle.mcs_system.specs.declared.parts.RuleReads as code_reads
use Rattle.mcs_system.specs.Plain.{Name, Read, Bridge, System}
use Rattle.mcs_system.specs.Systems.{same_read, is_of_context, variables_of}
use Rattle.mcs_system.specs.Imports.{rules_into}
use Rattle.mcs_system.specs.Rows.{inputs_of, is_read_into}
use Rattle.mcs_system.specs.Atoms.{atoms_of}

-- ---- of a context
pub record ContextPart : Type 0 where
  pub atoms : List Name
  pub variables : ℕ
  pub inputs : ℕ
  pub rules : ℕ

abbrev pub context_part : System → ℕ → ContextPart
context_part m i = record { atoms = atoms_of m i; variables = variables_of m i; inputs = inputs_of m i; rules = rules_into m i }

abbrev pub context_part_of : code_parts.ContextParts → ContextPart
context_part_of p = record { atoms = p.atoms.items; variables = p.variables; inputs = p.inputs; rules = p.rules }

-- those of the variables that are of context i
unfoldable pub variables_among : List Read → ℕ → ℕ
variables_among vs i = such_that (length vs) (λ v. is_of_context i (slice_get vs v))

-- those of the variables that rules into context i read, where these are the rules
unfoldable pub inputs_among : List Read → List Bridge → ℕ → ℕ
inputs_among vs bs i = such_that (length vs) (λ v. is_read_into (record { contexts = []; bridges = bs }) i (slice_get vs v))

-- ---- of a rule
pub record RulePart : Type 0 where
  pub positive : ℕ
  pub negative : ℕ

abbrev pub is_read_among : List Read → Option Read → Bool
is_read_among reads None = false
is_read_among reads (Some r) = list_any (same_read r) reads

-- those of the variables that are among the reads
unfoldable pub variables_read : List Read → List Read → ℕ
variables_read vs reads = such_that (length vs) (λ v. is_read_among reads (slice_get vs v))

abbrev pub rule_part : List Read → Bridge → RulePart
rule_part vs b = record { positive = variables_read vs b.pos; negative = variables_read vs b.neg }

abbrev pub rule_part_of : code_reads.RuleReads → RulePart
rule_part_of r = record { positive = r.positive; negative = r.negative }

-- those of the variables that the rule reads, if it goes into context i
abbrev pub read_into : List Read → ℕ → Bridge → ℕ
read_into vs i b = cond (nat_eq b.target i) (union (variables_read vs b.pos) (variables_read vs b.neg)) 0
