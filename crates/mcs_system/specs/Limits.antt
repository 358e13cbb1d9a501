-- The limits of a system: what each is called, and its number.
use Rattle.std.specs.Prelude.{ℕ, ◌++◌, List, codes}
use Rattle.std.specs.Fmt.{decimal}
use Rattle.mcs_base.specs.Words.{most_name_bytes}
use Rattle.mcs_system.specs.declared.limit.Limit.{Limit}
use Rattle.mcs_system.specs.declared.limit.Limit.TheVariants.{Contexts, Bridges, RulesPerContext, Variables, InputsPerContext, AtomsPerContext, DefaultsPerContext, ItemsPerContext, Weight, FormulaSize, OpenParentheses, NameBytes}

-- the most
abbrev pub most : Limit → ℕ
most Contexts = 64
most Bridges = 64
most RulesPerContext = 12
most Variables = 64
most InputsPerContext = 16
most AtomsPerContext = 64
most DefaultsPerContext = 10
most ItemsPerContext = 4096
most Weight = 1000000
most FormulaSize = 512
most OpenParentheses = 512
most NameBytes = most_name_bytes

-- what it is called
abbrev pub name_of_limit : Limit → List ℕ
name_of_limit Contexts = codes "contexts"
name_of_limit Bridges = codes "bridges"
name_of_limit RulesPerContext = codes "rules_per_context"
name_of_limit Variables = codes "variables"
name_of_limit InputsPerContext = codes "inputs_per_context"
name_of_limit AtomsPerContext = codes "atoms_per_context"
name_of_limit DefaultsPerContext = codes "defaults_per_context"
name_of_limit ItemsPerContext = codes "items_per_context"
name_of_limit Weight = codes "weight"
name_of_limit FormulaSize = codes "formula_size"
name_of_limit OpenParentheses = codes "open_parentheses"
name_of_limit NameBytes = codes "name_bytes"

-- the name and the number
abbrev pub limit_words : Limit → List ℕ
limit_words limit = name_of_limit limit ++ (codes " " ++ decimal (most limit))
