-- A family of systems, one for each number: contexts in a row, each of which reads the end of a chain in the one before it.
use Rattle.std.specs.Prelude.{ℕ, ◌+◌, ◌-◌, ◌/◌, ◌%◌, nat_eq, Bool, ◌&&◌, ◌||◌, cond, List, [], ◌∷◌, ◌++◌, map, codes}
use Rattle.std.specs.Fmt.{decimal}
use Rattle.std.specs.List.{range_with_len, flat_map}
use Rattle.mcs_system.specs.Plain.{Name, Formula, Atom, Implies, Default, ProgramRule, Item, Fact, Rule, Kb, Classical, DefaultTheory, Program, Context, Read, Bridge, System, plain_rule}

-- ---- what the number says: how many contexts there are, how long the chain in each is, and whether the system is inconsistent by design
abbrev pub context_count : ℕ → ℕ
context_count n = 2 + n % 32

abbrev pub chain_length : ℕ → ℕ
chain_length n = 1 + n / 32 % 32

abbrev pub is_inconsistent : ℕ → Bool
is_inconsistent n = nat_eq (n / 1024 % 2) 1

-- ---- names: a letter and a number in decimal
abbrev pub context_name : ℕ → Name
context_name i = codes "g" ++ decimal i

abbrev pub link_name : ℕ → Name
link_name j = codes "a" ++ decimal j

-- of the rule that fires where the chain before it ends, and of the one that fires where it does not
abbrev pub reached_name : ℕ → Name
reached_name i = codes "s" ++ decimal i

abbrev pub missed_name : ℕ → Name
missed_name i = codes "t" ++ decimal i

-- ---- a chain: a1 from x, and each later link from the one before it
-- the numbers of the later links
abbrev pub later_links : ℕ → List ℕ
later_links n = range_with_len 2 (chain_length n - 1)

abbrev pub implication : Name → Name → Formula
implication from to = Implies (Atom from) (Atom to)

-- as formulas
abbrev pub link_formula : ℕ → Formula
link_formula j = implication (link_name (j - 1)) (link_name j)

abbrev pub first_formula : Formula
first_formula = implication (codes "x") (link_name 1)

abbrev pub link_fact : ℕ → Item
link_fact j = Fact (link_formula j)

-- as a default
abbrev pub first_default : Default
first_default = record { pre = Atom (codes "x"); justs = Atom (link_name 1) ∷ []; conclusion = Atom (link_name 1) }

-- as rules of a program: a link but the first fails where b holds
abbrev pub rule : List Name → List Name → List Name → ProgramRule
rule head pos neg = record { head = head; pos = pos; neg = neg }

abbrev pub first_rule : ProgramRule
first_rule = rule (link_name 1 ∷ []) (codes "x" ∷ []) []

abbrev pub link_rule : ℕ → ProgramRule
link_rule j = rule (link_name j ∷ []) (link_name (j - 1) ∷ []) (codes "b" ∷ [])

-- the first context chooses between x and y
abbrev pub choice_rules : ℕ → List ProgramRule
choice_rules i = cond (nat_eq i 0) (rule (codes "x" ∷ codes "y" ∷ []) [] [] ∷ []) []

-- the last context of an inconsistent system forbids both
abbrev pub is_forbidding : ℕ → ℕ → Bool
is_forbidding n i = is_inconsistent n && nat_eq (i + 1) (context_count n)

abbrev pub forbidding_rules : ℕ → ℕ → List ProgramRule
forbidding_rules n i = cond (is_forbidding n i) (rule [] (codes "x" ∷ []) [] ∷ rule [] (codes "y" ∷ []) [] ∷ []) []

-- ---- the contexts: programs, classical contexts and default theories in turn, but a program is what forbids
abbrev pub program_rules : ℕ → ℕ → List ProgramRule
program_rules n i = choice_rules i ++ (first_rule ∷ (map link_rule (later_links n) ++ forbidding_rules n i))

abbrev pub classical_formulas : ℕ → List Formula
classical_formulas n = first_formula ∷ map link_formula (later_links n)

abbrev pub theory_items : ℕ → List Item
theory_items n = Rule first_default ∷ map link_fact (later_links n)

abbrev pub is_program_at : ℕ → ℕ → Bool
is_program_at n i = nat_eq (i % 3) 0 || is_forbidding n i

abbrev pub generated_kb : ℕ → ℕ → Kb
generated_kb n i = cond (is_program_at n i) (Program (program_rules n i)) (cond (nat_eq (i % 3) 1) (Classical (classical_formulas n)) (DefaultTheory (theory_items n)))

abbrev pub generated_context : ℕ → ℕ → Context
generated_context n i = record { name = context_name i; kb = generated_kb n i }

abbrev pub generated_contexts : ℕ → List Context
generated_contexts n = map (generated_context n) (range_with_len 0 (context_count n))

-- ---- the rules into a context but the first: x where the context before it believes the last link, y where not
abbrev pub chain_end : ℕ → ℕ → Read
chain_end n i = record { context = i - 1; belief = Atom (link_name (chain_length n)) }

abbrev pub reached_rule : ℕ → ℕ → Bridge
reached_rule n i = plain_rule (reached_name i) i (Atom (codes "x")) (chain_end n i ∷ []) []

abbrev pub missed_rule : ℕ → ℕ → Bridge
missed_rule n i = plain_rule (missed_name i) i (Atom (codes "y")) [] (chain_end n i ∷ [])

abbrev pub rules_to : ℕ → ℕ → List Bridge
rules_to n i = reached_rule n i ∷ missed_rule n i ∷ []

abbrev pub generated_bridges : ℕ → List Bridge
generated_bridges n = flat_map (rules_to n) (range_with_len 1 (context_count n - 1))

-- ---- the system of a number
abbrev pub generated_system : ℕ → System
generated_system n = record { contexts = generated_contexts n; bridges = generated_bridges n }
