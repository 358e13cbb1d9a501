-- What holds of clause lists, entailments and certificates.
use Rattle.std.specs.Prelude.{◌≡◌, ℕ, false, IsTrue, List, ℤ, ◌↔◌}
use Rattle.mcs_base.specs.Listings.{IsAmong, IsListing}
use Rattle.mcs_sets.specs.Orders.{StateBefore}
use Rattle.mcs_system.specs.Plain.{Name, Formula, Classical, System}
use Rattle.mcs_system.specs.Logic.{Theory, is_in, atoms, Entails}
use Rattle.mcs_system.specs.Views.{Shows, IsAcceptedView}
use Rattle.mcs_system.specs.Atoms.{atom_occurrences, atoms_of}
use Rattle.mcs_system.specs.Faults.{has_twins}
use Rattle.mcs_trace.specs.Clauses.{LiteralBefore, IsUnsatisfiable}
use Rattle.mcs_cnf.specs.ClauseLists.{clause_of, clause_list, IsOver, AreOver}
use Rattle.mcs_cnf.specs.Meaning.{IsMeaning}
use Rattle.mcs_cnf.specs.Entailments.{Entailment, says_yes, with_negated, IsAcceptedEntailment}
use Rattle.mcs_cnf.specs.Classical.{AreShown, IsAcceptedClassical}

-- a clause is the set of its literals, listed in the order of literals
abbrev pub ClausesAreSets : Type 0
ClausesAreSets = (ls : List ℤ) → IsListing (λ l. IsAmong l ls) LiteralBefore (clause_of ls)

abbrev pub ClausesMeanTheFormulas : Type 0
ClausesMeanTheFormulas = (fs : List Formula) (names a : List Name) → AreOver names fs → has_twins names ≡ false → IsMeaning names fs a

-- a formula follows exactly where nothing satisfies the clauses of the formulas with its negation
abbrev pub EntailmentIsRefutation : Type 0
EntailmentIsRefutation = (fs : List Formula) (g : Formula) (names : List Name) → AreOver names fs → IsOver names g
    → Entails fs g ↔ IsUnsatisfiable (clause_list names (with_negated fs g)).clauses

-- an accepted entailment says `yes` exactly where the formula follows
abbrev pub EntailmentsAreSound : Type 0
EntailmentsAreSound = (fs : List Formula) (g : Formula) (names : List Name) (e : Entailment) → AreOver names fs → IsOver names g
    → IsAcceptedEntailment names fs g e → IsTrue (says_yes e) ↔ Entails fs g

-- the beliefs that are shown to follow are those of the theory of the formulas
abbrev pub ShownBeliefsFollow : Type 0
ShownBeliefsFollow = (names : List Name) (fs beliefs : List Formula) (places : ℕ) (es : List Entailment) → AreOver names fs → AreOver names beliefs
    → AreShown names fs beliefs places es → Shows (Theory fs) beliefs places

-- an accepted certificate shows the listing of what the context accepts
abbrev pub ClassicalCertificatesAreSound : Type 0
ClassicalCertificatesAreSound = (names : List Name) (fs beliefs : List Formula) (outputs : List ℕ) (es : List Entailment) → AreOver names fs → AreOver names beliefs
    → IsAcceptedClassical names fs beliefs outputs es → IsListing (IsAcceptedView (Classical fs) beliefs) StateBefore outputs

-- a formula is over names exactly where each of its atoms is one of them
abbrev pub FormulasAreOverTheirAtoms : Type 0
FormulasAreOverTheirAtoms = (names : List Name) (f : Formula) → IsOver names f ↔ ((n : Name) → IsTrue (is_in n (atoms f)) → IsTrue (is_in n names))

-- no two atoms of a context have one name, and a formula whose atoms occur in the context is over its atoms
abbrev pub ContextsAreOverTheirAtoms : Type 0
ContextsAreOverTheirAtoms = (m : System) (i : ℕ)
    → (has_twins (atoms_of m i) ≡ false) × ((f : Formula) → ((n : Name) → IsTrue (is_in n (atoms f)) → IsTrue (is_in n (atom_occurrences m i))) → IsOver (atoms_of m i) f)
