-- When it is accepted that a disjunctive program has exactly some views: by its answer sets, each with a refutation of any smaller model of its reduct, and a refutation of all others (Gelfond and Lifschitz 1991).
use Rattle.std.specs.Prelude.{◌≡◌, ℕ, ◌+◌, ◌<◌, cond, Bool, not, ◌&&◌, IsTrue, List, [], ◌∷◌, ◌++◌, map, filter, length}
use Rattle.std.specs.List.{AllByRecursion, AllZip, list_any, list_all}
use Rattle.mcs_sets.specs.Sets.{has}
use Rattle.mcs_sets.specs.Orders.{StateBefore}
use Rattle.mcs_base.specs.Listings.{IsAscending}
use Rattle.mcs_system.specs.Plain.{Name, Formula, Truth, Falsity, Atom, Not, And, Or, Implies, ProgramRule}
use Rattle.mcs_system.specs.Logic.{holds_all, is_in, true_names, reduct, Atoms}
use Rattle.mcs_system.specs.Views.{Shows}
use Rattle.mcs_trace.specs.Traces.{Inference, IsAcceptedTrace, inferences_of}
use Rattle.mcs_trace.specs.declared.certificate.AnswerSetCert as code_model
use Rattle.mcs_trace.specs.declared.certificate.ProgramCert as code
use Rattle.mcs_cnf.specs.ClauseLists.{clause_list}

-- ---- formulas of lists: built from the left, of an empty list true and false
abbrev pub and_from : Formula → List Formula → Formula
and_from f [] = f
and_from f (g ∷ gs) = and_from (And f g) gs

abbrev pub or_from : Formula → List Formula → Formula
or_from f [] = f
or_from f (g ∷ gs) = or_from (Or f g) gs

abbrev pub conjunction : List Formula → Formula
conjunction [] = Truth
conjunction (f ∷ fs) = and_from f fs

abbrev pub disjunction : List Formula → Formula
disjunction [] = Falsity
disjunction (f ∷ fs) = or_from f fs

abbrev pub atoms_as : List Name → List Formula
atoms_as names = map Atom names

abbrev pub negated_atoms : List Name → List Formula
negated_atoms names = map (λ (n : Name). Not (Atom n)) names

-- the names whose places, the first one being k, are not in the set
abbrev pub false_names : ℕ → List Name → ℕ → List Name
false_names k [] s = []
false_names k (n ∷ ns) s = cond (has s k) (false_names (k + 1) ns s) (n ∷ false_names (k + 1) ns s)

-- ---- formulas of a program
-- the body, the positive literals first, implies the head
abbrev pub rule_formula : ProgramRule → Formula
rule_formula r = Implies (conjunction (atoms_as r.pos ++ negated_atoms r.neg)) (disjunction (atoms_as r.head))

-- the same without the negative literals
abbrev pub positive_formula : ProgramRule → Formula
positive_formula r = Implies (conjunction (atoms_as r.pos)) (disjunction (atoms_as r.head))

-- no assignment makes them true where no less than the set of the atoms at these places satisfies the reduct by it
abbrev pub smaller_formulas : List Name → List ProgramRule → ℕ → List Formula
smaller_formulas names rules model =
    map positive_formula (reduct (true_names 0 names model) rules) ++ (negated_atoms (false_names 0 names model) ++ Not (conjunction (atoms_as (true_names 0 names model))) ∷ [])

-- the positive body lies within the names, and no head atom is one of them
abbrev pub is_broken_by : List Name → ProgramRule → Bool
is_broken_by a r = list_all (λ n. is_in n a) r.pos && not (list_any (λ n. is_in n a) r.head)

-- false where exactly the atoms at these places are less than a model and satisfy the reduct by it
abbrev pub beside_formula : List Name → List ProgramRule → ℕ → Formula
beside_formula names rules less =
    Not (conjunction (atoms_as (true_names 0 names less) ++ (disjunction (atoms_as (false_names 0 names less)) ∷ map (λ (r : ProgramRule). disjunction (atoms_as r.neg)) (filter (is_broken_by (true_names 0 names less)) rules))))

-- the beliefs, the first one having place k, each as the state has it
abbrev pub literals_of_state : ℕ → List Formula → ℕ → List Formula
literals_of_state k [] state = []
literals_of_state k (p ∷ ps) state = cond (has state k) p (Not p) ∷ literals_of_state (k + 1) ps state

-- the state is another one
abbrev pub other_formula : List Formula → ℕ → Formula
other_formula beliefs state = Not (conjunction (literals_of_state 0 beliefs state))

-- ---- certificates as plain data
pub record ModelShown : Type 0 where
  pub model : ℕ
  pub minimal : List Inference

pub record ProgramShown : Type 0 where
  pub models : List ModelShown
  pub smaller : List ℕ
  pub rest : List Inference

abbrev pub model_shown_of : code_model.AnswerSetCert → ModelShown
model_shown_of c = record { model = c.model; minimal = inferences_of c.minimal }

abbrev pub program_shown_of : code.ProgramCert → ProgramShown
program_shown_of c = record { models = map model_shown_of c.models.items; smaller = c.smaller.items; rest = inferences_of c.none }

-- ---- what is accepted
-- the trace refutes the formulas
abbrev pub IsRefutation : List Name → List Formula → List Inference → Type 0
IsRefutation names fs steps = IsAcceptedTrace (clause_list names fs).clauses steps

-- a set of places of the names
abbrev pub IsInRange : List Name → ℕ → Type 0
IsInRange names places = (k : ℕ) → IsTrue (has places k) → k < length names

-- the places are a model of the rules, and no less than it satisfies its reduct
pub record IsModelShown (names : List Name) (rules : List ProgramRule) (m : ModelShown) : Type 0 where
  pub in_range : IsInRange names m.model
  pub satisfies : IsTrue (holds_all (true_names 0 names m.model) (map rule_formula rules))
  pub minimal : IsRefutation names (smaller_formulas names rules m.model) m.minimal

-- the state is shown by such a model
pub record IsAcceptedModel (names : List Name) (rules : List ProgramRule) (beliefs : List Formula) (state : ℕ) (m : ModelShown) : Type 0 where
  pub shown : IsModelShown names rules m
  pub shows : Shows (Atoms (true_names 0 names m.model)) beliefs state

-- the formulas of the program, of the smaller sets, and that the state is none of those put out
abbrev pub rest_formulas : List Name → List ProgramRule → List Formula → List ℕ → List ℕ → List Formula
rest_formulas names rules beliefs smaller outputs = map rule_formula rules ++ (map (beside_formula names rules) smaller ++ map (other_formula beliefs) outputs)

-- a certificate of a program: a model for each view that is put out, and a refutation of all others
pub record IsAcceptedProgram (names : List Name) (rules : List ProgramRule) (beliefs : List Formula) (outputs : List ℕ) (c : ProgramShown) : Type 0 where
  pub ascending : IsAscending StateBefore outputs
  pub models : AllZip (IsAcceptedModel names rules beliefs) outputs c.models
  pub in_range : AllByRecursion (IsInRange names) c.smaller
  pub others : IsRefutation names (rest_formulas names rules beliefs c.smaller outputs) c.rest

-- each atom of the rules is one of the names
abbrev pub IsOverRule : List Name → ProgramRule → Type 0
IsOverRule names r = AllByRecursion (λ n. IsTrue (is_in n names)) r.head × AllByRecursion (λ n. IsTrue (is_in n names)) r.pos × AllByRecursion (λ n. IsTrue (is_in n names)) r.neg

abbrev pub AreOverRules : List Name → List ProgramRule → Type 0
AreOverRules names rules = AllByRecursion (IsOverRule names) rules

-- each belief is one of the names
abbrev pub AreAtomsOf : List Name → List Formula → Type 0
AreAtomsOf names beliefs = AllByRecursion (λ (f : Formula). (n : Name) × (f ≡ Atom n) × IsTrue (is_in n names)) beliefs
