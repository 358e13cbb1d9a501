-- What is kept of a knowledge base.
use Rattle.std.specs.Prelude.{◌≡◌, ℕ, List, Option, Some, slice_get}
use Rattle.std.specs.List.{AllByRecursion}
use Rattle.mcs_system.specs.Plain.{Name, Formula, Item, ClassicalKind, DefaultKind, Kb, OfKind, Context, System}
use Rattle.mcs_system.specs.Atoms.{atoms_of}
use Rattle.mcs_system.specs.Systems.{variables_of, heads_into}
use Rattle.mcs_system.specs.Views.{beliefs_at}
use Rattle.mcs_trace.specs.Clauses.{ClauseList}
use Rattle.mcs_cnf.specs.ClauseLists.{clause_list}
use Rattle.mcs_meant.specs.Meanings.{AreMeantBy}
use Rattle.mcs_classical.specs.Assumptions.{assumed}
use Rattle.mcs_classical.specs.Consequences.{AreConsequences}
use Rattle.mcs_classical.specs.declared.assumptions.Assumption as declared
use Rattle.mcs_classical.specs.declared.consequences.Consequences as consequences
use Rattle.mcs_default.specs.Keeping.{IsTheoryBase}
use Rattle.mcs_default.specs.declared.base.TheoryBase as base
use Rattle.mcs_solver.specs.declared.known.Known as known
use Rattle.mcs_solver.specs.declared.known.Known.TheVariants as variants

-- ---- what was found to follow
-- it is right of the formulas and the beliefs with any assumptions that are the heads of each set of rules
abbrev pub AreRightConsequences : List Formula → (ℕ → List Formula) → List Formula → consequences.Consequences → Type 0
AreRightConsequences formulas heads beliefs found = (assumptions : List declared.Assumption)
    → ((rules : ℕ) → assumed rules assumptions ≡ heads rules) → AreConsequences formulas assumptions beliefs found

-- the clauses mean the formulas, and what was found is right of these
abbrev pub IsMadeOfFormulas : List Name → List Formula → (ℕ → List Formula) → List Formula → ClauseList → consequences.Consequences → Type 0
IsMadeOfFormulas names formulas heads beliefs clauses found = AreMeantBy names formulas clauses × AreRightConsequences formulas heads beliefs found

-- ---- what was found of a default theory
-- it was found of these items with any assumptions that are the heads of each set of rules
abbrev pub IsMadeOfItems : List Name → List Item → (ℕ → List Formula) → base.TheoryBase → Type 0
IsMadeOfItems names items heads base = (assumptions : List declared.Assumption)
    → ((rules : ℕ) → assumed rules assumptions ≡ heads rules) → IsTheoryBase names items assumptions base

-- ---- what is kept, if anything, of a knowledge base that is told heads by sets of rules, and asked for beliefs
abbrev pub IsMadeOf : List Name → Kb → (ℕ → List Formula) → List Formula → Option known.Known → Type 0
IsMadeOf names (OfKind ClassicalKind formulas) heads beliefs (Some (variants.Classical clauses found)) = IsMadeOfFormulas names formulas heads beliefs clauses found
IsMadeOf names (OfKind ClassicalKind formulas) heads beliefs (Some (variants.Certified clauses)) = clauses ≡ clause_list names formulas
IsMadeOf names (OfKind DefaultKind items) heads beliefs (Some (variants.Theory base)) = IsMadeOfItems names items heads base
IsMadeOf names kb heads beliefs known = Unit {0}

-- the same of a context of a system
abbrev pub IsMadeOfContext : System → ℕ → Option known.Known → Type 0
IsMadeOfContext m i known = (c : Context) → slice_get m.contexts i ≡ Some c → IsMadeOf (atoms_of m i) c.kb (heads_into m i) (beliefs_at m (variables_of m i)) known

-- the same of each of these
abbrev pub AreMadeOfContext : System → ℕ → List known.Known → Type 0
AreMadeOfContext m i found = AllByRecursion (λ (k : known.Known). IsMadeOfContext m i (Some k)) found
