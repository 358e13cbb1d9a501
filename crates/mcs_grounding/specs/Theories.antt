-- The facts and the defaults of a theory, as lists.
use Rattle.std.specs.Prelude.{◌≡◌, ℕ, List, map}
use Rattle.mcs_system.specs.Plain.{Name, Formula, Default, Item}
use Rattle.mcs_trace.specs.Clauses.{ClauseList}
use Rattle.mcs_cnf.specs.ClauseLists.{clause_list, AreOver}
use Rattle.mcs_evidence.specs.Defaults.{facts_of, defaults_of, defaults_at}

-- the clauses are those of the formulas, which are over the names
abbrev pub AreClausesOf : List Name → List Formula → ClauseList → Type 0
AreClausesOf names fs known = (known ≡ clause_list names fs) × AreOver names fs

-- the consequents of the defaults of a set
abbrev pub consequents : List Default → ℕ → List Formula
consequents ds set = map (λ (d : Default). d.conclusion) (defaults_at 0 ds set)

-- the items have these defaults, and these are the clauses of their facts
abbrev pub AreParts : List Name → List Item → List Default → ClauseList → Type 0
AreParts names items ds known = (ds ≡ defaults_of items) × AreClausesOf names (facts_of items) known
