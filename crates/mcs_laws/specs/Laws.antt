-- What the definitions have in common with the literature: each is the contract of a function of `laws`.
use Rattle.std.specs.Prelude.{◌≡◌, ℕ, ◌+◌, ◌^◌, IsTrue, ◌++◌, ◌<◌, ◌≤◌, true, false, List, [], ◌∷◌, ◌↔◌, map, slice_get, Some, None, ◌⊎◌, length}
use Rattle.mcs_sets.specs.Sets.{has, size, common, minus, Within, Meets}
use Rattle.mcs_sets.specs.Orders.{StateBefore, PairBefore}
use Rattle.std.specs.List.{AllByRecursion}
use Rattle.mcs_system.specs.Rows.{IsRow, AgreeOnCommon, HasParts, local_of}
use Rattle.mcs_system.specs.Imports.{IsQuestion, rules_into, marks_at}
use Rattle.mcs_system.specs.Levels.{IsQuestionAt, IsCount, IsNeed, IsLocalRow}
use Rattle.mcs_system.specs.Views.{IsAcceptedView, beliefs_at, at_places}
use Rattle.mcs_system.specs.declared.limit.Limit.TheVariants.{Weight}
use Rattle.mcs_system.specs.Faults.{fault, fault_of, IsValid}
use Rattle.mcs_base.specs.Pairs.{removed_of, forced_of}
use Rattle.mcs_base.specs.Transversals.{IsTransversalOf}
use Rattle.mcs_system.specs.Plain.{Name, Formula, Atom, Not, ProgramRule, Item, Classical, DefaultTheory, Program, Context, System}
use Rattle.mcs_system.specs.Logic.{is_in, atoms, all_atoms, true_names, holds, holds_all, Entails, BeliefSet, Theory, Atoms, Believes, Accepts, with_heads, IsAnswerSet, IsExtension, IsClassical}
use Rattle.mcs_system.specs.Systems.{heads_into, Follows, IsConsistent, IsProjection, IsProjectedEquilibrium, IsAcceptedPart, acting_at, variables_of, all_variables, all_rules}
use Rattle.mcs_laws.specs.Examples.{SameNames, self_support, against_itself, one_reads_other, one_reads_fact, told_paradox, p, q, a_or_b, a_unless_b, a_unless_a, a_if_a, b_if_a, name_a, name_b, birds, bird, flies, p_by_itself, p_by_default, p_or_q, against_itself_where, kept_fact, closed_never, fact_of_weight}
use Rattle.mcs_base.specs.Minimal.{IsMinimal}
use Rattle.mcs_laws.specs.Free.{IsUnbarred, IsFreeDiagnosis, IsFreeExplanation, IsFreeChoice, IsFreeQuestion, IsFreeRow}
use Rattle.mcs_system.specs.Repairs.{all_marks, allowed_marks, IsDiagnosis, IsExplanation, IsChoice, choice_marks}
use Rattle.mcs_base.specs.Listings.{IsListing}

-- the projected equilibria have at most one listing
abbrev pub StatesHaveOneListing : Type 0
StatesHaveOneListing = (m : System) (r1 r2 : ℕ) (xs ys : List ℕ) → IsListing (IsProjectedEquilibrium m r1 r2) StateBefore xs → IsListing (IsProjectedEquilibrium m r1 r2) StateBefore ys → xs ≡ ys

abbrev pub DiagnosesHaveOneListing : Type 0
DiagnosesHaveOneListing = (m : System) (xs ys : List ℕ) → IsListing (IsMinimal (IsDiagnosis m)) PairBefore xs → IsListing (IsMinimal (IsDiagnosis m)) PairBefore ys → xs ≡ ys

-- an explanation is what meets each diagnosis
abbrev pub ExplanationsMeetDiagnoses : Type 0
ExplanationsMeetDiagnoses = (m : System) (pair : ℕ) → IsExplanation m pair ↔ (Within pair (all_marks m) × ((e : ℕ) → IsDiagnosis m e → Meets pair e))

-- the minimal explanations are the minimal transversals of the listing of the minimal diagnoses
abbrev pub MinimalExplanationsAreMinimalTransversals : Type 0
MinimalExplanationsAreMinimalTransversals = (m : System) (ds : List ℕ) (pair : ℕ) → IsListing (IsMinimal (IsDiagnosis m)) PairBefore ds
    → IsMinimal (IsExplanation m) pair ↔ IsMinimal (IsTransversalOf ds) pair

-- where no pair is a diagnosis, the empty pair is the one minimal explanation
abbrev pub WithoutDiagnosesNothingExplains : Type 0
WithoutDiagnosesNothingExplains = (m : System) → ((e : ℕ) → ¬ IsDiagnosis m e) → (pair : ℕ) → IsMinimal (IsExplanation m) pair ↔ (pair ≡ 0)

-- an equilibrium, as far as variables show it, is what the contexts accept one by one
abbrev pub EquilibriaAreByParts : Type 0
EquilibriaAreByParts = (m : System) (r1 r2 σ : ℕ)
    → IsProjectedEquilibrium m r1 r2 σ ↔ (Within σ (all_variables m) × ((i : ℕ) → i < length m.contexts → IsAcceptedPart m i (acting_at m σ r1 r2) (common σ (variables_of m i))))

-- whether a formula follows is decided
abbrev pub ConsequenceIsDecided : Type 0
ConsequenceIsDecided = (formulas : List Formula) (p : Formula) → Entails formulas p ⊎ (¬ Entails formulas p)

-- the names have every atom of the formulas
abbrev pub NamesCover : List Name → List Formula → Formula → Type 0
NamesCover names formulas p = (n : Name) → IsTrue (is_in n (all_atoms formulas ++ atoms p)) → IsTrue (is_in n names)

-- in each row of the truth table over the names in which all of the list holds, p holds
abbrev pub PassesTable : List Name → List Formula → Formula → Type 0
PassesTable names formulas p = (row : ℕ) → row < 2 ^ length names → IsTrue (holds_all (true_names 0 names row) formulas) → IsTrue (holds (true_names 0 names row) p)

-- the truth table over the atoms decides for all assignments, also for those that name other atoms
abbrev pub TablesDecide : Type 0
TablesDecide = (names : List Name) (formulas : List Formula) (p : Formula) → NamesCover names formulas p → Entails formulas p ↔ PassesTable names formulas p

-- a classical context accepts one part alone: the variables that follow
abbrev pub ClassicalContextsAcceptWhatFollows : Type 0
ClassicalContextsAcceptWhatFollows = (m : System) (i x τ : ℕ) (c : Context) (formulas : List Formula) → slice_get m.contexts i ≡ Some c → c.kb ≡ Classical formulas
    → IsAcceptedPart m i x τ ↔ ((v : ℕ) → IsTrue (has τ v) ↔ Follows m i (formulas ++ heads_into m i x) v)

-- the projected equilibria of a system of classical contexts have a listing
abbrev pub ClassicalStatesHaveAListing : Type 0
ClassicalStatesHaveAListing = (m : System) (r1 r2 : ℕ) → AllByRecursion (λ (c : Context). IsClassical c.kb) m.contexts → (xs : List ℕ) × IsListing (IsProjectedEquilibrium m r1 r2) StateBefore xs

-- the verdict says that there is an equilibrium exactly where there is one
abbrev pub ConsistencyIsListed : Type 0
ConsistencyIsListed = (m : System) (xs : List ℕ) → IsListing (IsProjectedEquilibrium m (all_rules m) 0) StateBefore xs → IsConsistent m ↔ (0 < length xs)

-- a positive cycle may support itself: exactly the two states, the one that holds the variable first
abbrev pub SelfSupportHasTwo : Type 0
SelfSupportHasTwo = IsListing (IsProjectedEquilibrium self_support (all_rules self_support) 0) StateBefore (1 ∷ 0 ∷ [])

abbrev pub AgainstItselfHasNone : Type 0
AgainstItselfHasNone = (σ : ℕ) → ¬ IsProjectedEquilibrium against_itself (all_rules against_itself) 0 σ

-- where the rule against its own context may not be removed, to force it is the one diagnosis: this pair has the mark 1 alone
abbrev pub KeptIsForced : Type 0
KeptIsForced = (pair : ℕ) → IsDiagnosis (against_itself_where true false) pair ↔ (pair ≡ 2)

-- where it may not be forced, to remove it is the one diagnosis: this pair has the mark 0 alone
abbrev pub ClosedIsRemoved : Type 0
ClosedIsRemoved = (pair : ℕ) → IsDiagnosis (against_itself_where false true) pair ↔ (pair ≡ 1)

-- where neither may be, nothing is a diagnosis, and the empty pair is an explanation
abbrev pub BarredIsUnrepaired : Type 0
BarredIsUnrepaired = ((pair : ℕ) → ¬ IsDiagnosis (against_itself_where true true) pair) × IsExplanation (against_itself_where true true) 0

-- a kept rule that always applies is in each question to its context
abbrev pub KeptIsAsked : Type 0
KeptIsAsked = (level x : ℕ) → IsQuestionAt kept_fact level 0 x ↔ (x ≡ 1)

-- a closed rule that never applies is in none
abbrev pub ClosedIsNotAsked : Type 0
ClosedIsNotAsked = (level x : ℕ) → IsQuestionAt closed_never level 0 x ↔ (x ≡ 0)

-- a weight is from 1 to 1000000: less is a misfit, and more exceeds the limit
abbrev pub WeightsAreLimited : Type 0
WeightsAreLimited =
    (fault_of (fact_of_weight 0) ≡ Some (fault 4 None)) × IsValid (fact_of_weight 1) × IsValid (fact_of_weight 1000000)
    × (fault_of (fact_of_weight 1000001) ≡ Some (fault 5 (Some Weight)))

-- what a program without answer sets needs, where a rule that always applies goes into it: it is asked with the rule and
-- without it, for one mark is allowed, and without marks it would be asked with it alone
abbrev pub NeedIsOfAllRules : Type 0
NeedIsOfAllRules = IsNeed told_paradox 2 × IsCount told_paradox 0 1

-- where a rule goes against its own context, this has no row without marks, and one where the rule is removed
abbrev pub RowsHaveFewMarks : Type 0
RowsHaveFewMarks = ((state marks : ℕ) → ¬ IsLocalRow against_itself 0 0 state marks) × IsLocalRow against_itself 1 0 0 1

-- a context that reads p of another one has no row with it, where the other one, which comes first, does not believe it
abbrev pub RowsKeepToSupplies : Type 0
RowsKeepToSupplies = (marks : ℕ) → ¬ IsRow one_reads_other (0 ∷ 1 ∷ []) 0 1 1 marks

-- nor is it asked with the rule that reads p there: at level 0 its one question is that without the rule, and the other context has one too
abbrev pub QuestionsKeepToSupplies : Type 0
QuestionsKeepToSupplies = IsQuestionAt one_reads_other 0 1 0 × (¬ IsQuestionAt one_reads_other 0 1 1) × IsCount one_reads_other 0 2

-- where the other context has p as a fact, it is asked with that rule, and not without it
abbrev pub QuestionsTakeSupplies : Type 0
QuestionsTakeSupplies = (¬ IsQuestionAt one_reads_fact 0 1 0) × IsQuestionAt one_reads_fact 0 1 1 × IsCount one_reads_fact 0 2

-- each choice is a diagnosis by its marks
abbrev pub ChoicesAreDiagnoses : Type 0
ChoicesAreDiagnoses = (m : System) (σ x : ℕ) → IsChoice m σ x → IsDiagnosis m (choice_marks m σ x)

-- a state of the system that a pair changes makes a choice with the rules that act in it
abbrev pub ChangedStatesAreChoices : Type 0
ChangedStatesAreChoices = (m : System) (pair σ : ℕ) → Within pair (allowed_marks m) → IsProjectedEquilibrium m (minus (all_rules m) (removed_of pair)) (forced_of pair) σ
    → IsChoice m σ (acting_at m σ (minus (all_rules m) (removed_of pair)) (forced_of pair))

-- in each state of the system that it changes, a minimal diagnosis is the difference between the rules that apply and those that act
abbrev pub MinimalDiagnosesAreDifferences : Type 0
MinimalDiagnosesAreDifferences = (m : System) (pair σ : ℕ) → IsMinimal (IsDiagnosis m) pair → IsProjectedEquilibrium m (minus (all_rules m) (removed_of pair)) (forced_of pair) σ
    → choice_marks m σ (acting_at m σ (minus (all_rules m) (removed_of pair)) (forced_of pair)) ≡ pair

-- a consistent system has the empty pair as its one minimal diagnosis, and no explanation
abbrev pub ConsistentNeedsNothing : Type 0
ConsistentNeedsNothing = (m : System) (σ : ℕ) → IsProjectedEquilibrium m (all_rules m) 0 σ → ((pair : ℕ) → IsMinimal (IsDiagnosis m) pair ↔ (pair ≡ 0)) × ((pair : ℕ) → ¬ IsExplanation m pair)

-- each belief state has exactly one projection
abbrev pub StatesHaveOneProjection : Type 0
StatesHaveOneProjection = (m : System) (s : List BeliefSet) → (σ : ℕ) × IsProjection m s σ × ((τ : ℕ) → IsProjection m s τ → τ ≡ σ)

-- a | b. has the two answer sets {a} and {b}, and not {a, b}
abbrev pub DisjunctionChooses : Type 0
DisjunctionChooses = IsAnswerSet a_or_b (name_a ∷ []) × IsAnswerSet a_or_b (name_b ∷ []) × (¬ IsAnswerSet a_or_b (name_a ∷ name_b ∷ []))

-- a bird flies, if nothing says that it does not: the theory of both is an extension
abbrev pub BirdFlies : Type 0
BirdFlies = IsExtension birds (bird ∷ flies ∷ [])

abbrev pub MinimalDiagnosesAreSmall : Type 0
MinimalDiagnosesAreSmall = (m : System) (pair : ℕ) → IsMinimal (IsDiagnosis m) pair → size pair ≤ length m.bridges

-- a question of a level is one of the next level
abbrev pub QuestionsGrow : Type 0
QuestionsGrow = (m : System) (order : List ℕ) (level i x : ℕ) → IsQuestion m order level i x → IsQuestion m order (level + 1) i x

-- a choice with few marks asks each context a question of the level
abbrev pub ChoicesAskQuestions : Type 0
ChoicesAskQuestions = (m : System) (order : List ℕ) (level σ x i : ℕ) → AllByRecursion (λ c. c < length m.contexts) order → IsChoice m σ x → size (choice_marks m σ x) ≤ level
    → IsQuestion m order level i (common x (rules_into m i))

-- rows that fit together, one of each context of a valid system, are the parts of a choice
abbrev pub RowsMakeChoices : Type 0
RowsMakeChoices = (m : System) (order : List ℕ) (level : ℕ) (rows : List (ℕ × ℕ)) → IsValid m → length rows ≡ length m.contexts
    → ((i : ℕ) (p : ℕ × ℕ) → slice_get rows i ≡ Some p → IsRow m order level i p.0 p.1) → AgreeOnCommon m rows
    → (σ : ℕ) × (x : ℕ) × IsChoice m σ x × HasParts m σ x rows

-- a choice with few marks has a row of each context
abbrev pub ChoicesHaveRows : Type 0
ChoicesHaveRows = (m : System) (order : List ℕ) (level σ x i : ℕ) → AllByRecursion (λ c. c < length m.contexts) order → IsChoice m σ x → size (choice_marks m σ x) ≤ level
    → i < length m.contexts → IsRow m order level i (common σ (local_of m i)) (marks_at m i σ (common x (rules_into m i)))

-- the marks of a choice are those at the contexts
abbrev pub MarksAreUnited : Type 0
MarksAreUnited = (m : System) (σ x k : ℕ) → IsValid m → Within x (all_rules m)
    → IsTrue (has (choice_marks m σ x) k) ↔ ((i : ℕ) × (i < length m.contexts) × IsTrue (has (marks_at m i σ (common x (rules_into m i))) k))

-- and no mark is one at two contexts
abbrev pub MarksAreApart : Type 0
MarksAreApart = (m : System) (σ τ x y i j : ℕ) → Within x (rules_into m i) → Within y (rules_into m j) → ¬ (i ≡ j) → ¬ Meets (marks_at m i σ x) (marks_at m j τ y)

-- ---- where no rule is barred
-- in a system without kept and closed rules each mark of a rule is allowed
abbrev pub AllMarksAreAllowed : Type 0
AllMarksAreAllowed = (m : System) → IsUnbarred m → allowed_marks m ≡ all_marks m

-- so its diagnoses, explanations, choices, questions and rows are those where each rule may be removed and forced
abbrev pub FreeDiagnoses : Type 0
FreeDiagnoses = (m : System) (pair : ℕ) → IsUnbarred m → IsDiagnosis m pair ↔ IsFreeDiagnosis m pair

abbrev pub FreeExplanations : Type 0
FreeExplanations = (m : System) (pair : ℕ) → IsUnbarred m → IsExplanation m pair ↔ IsFreeExplanation m pair

abbrev pub FreeChoices : Type 0
FreeChoices = (m : System) (σ x : ℕ) → IsUnbarred m → IsChoice m σ x ↔ IsFreeChoice m σ x

abbrev pub FreeQuestions : Type 0
FreeQuestions = (m : System) (order : List ℕ) (level i x : ℕ) → IsUnbarred m → IsQuestion m order level i x ↔ IsFreeQuestion m order level i x

abbrev pub FreeRows : Type 0
FreeRows = (m : System) (order : List ℕ) (level i state marks : ℕ) → IsUnbarred m → IsRow m order level i state marks ↔ IsFreeRow m order level i state marks

-- ---- views
-- what a context accepts with the heads of some rules, through its variables, is what its knowledge base accepts through their beliefs
abbrev pub PartsAreViews : Type 0
PartsAreViews = (m : System) (i x τ : ℕ) (c : Context) → slice_get m.contexts i ≡ Some c
    → IsAcceptedPart m i x τ ↔ ((places : ℕ) × IsAcceptedView (with_heads c.kb (heads_into m i x)) (beliefs_at m (variables_of m i)) places × (τ ≡ at_places (variables_of m i) places))

-- so the listing of the views gives the listing of the parts
abbrev pub ViewListingsGivePartListings : Type 0
ViewListingsGivePartListings = (m : System) (i x : ℕ) (c : Context) (views : List ℕ) → slice_get m.contexts i ≡ Some c
    → IsListing (IsAcceptedView (with_heads c.kb (heads_into m i x)) (beliefs_at m (variables_of m i))) StateBefore views
    → IsListing (IsAcceptedPart m i x) StateBefore (map (at_places (variables_of m i)) views)

-- ---- worked contexts
-- a :- not b. has the answer set {a} alone
abbrev pub NegationAllows : Type 0
NegationAllows = (names : List Name) → IsAnswerSet a_unless_b names ↔ SameNames names (name_a ∷ [])

-- a :- not a. has none
abbrev pub NegationUndoes : Type 0
NegationUndoes = (names : List Name) → ¬ IsAnswerSet a_unless_a names

-- a :- a. has the empty one alone
abbrev pub ProgramsDoNotSupportThemselves : Type 0
ProgramsDoNotSupportThemselves = (names : List Name) → IsAnswerSet a_if_a names ↔ SameNames names []

-- b :- a. with the head a added has {a, b} alone
abbrev pub HeadsAreFacts : Type 0
HeadsAreFacts = (b : BeliefSet) → Accepts (with_heads (Program b_if_a) (Atom name_a ∷ [])) b ↔ ((names : List Name) × (b ≡ Atoms names) × SameNames names (name_a ∷ name_b ∷ []))

-- a set of names believes no formula but the atoms that it names
abbrev pub ProgramsBelieveAtoms : Type 0
ProgramsBelieveAtoms = (names : List Name) (f : Formula) → Believes (Atoms names) f ↔ ((n : Name) × (f ≡ Atom n) × IsTrue (is_in n names))

-- p : p / p. has the extension of nothing, and not that of p
abbrev pub DefaultsAreGrounded : Type 0
DefaultsAreGrounded = IsExtension p_by_itself [] × (¬ IsExtension p_by_itself (p ∷ []))

-- two defaults, each of whose conclusions is against the other's justification, have an extension each
abbrev pub DefaultsMayChoose : Type 0
DefaultsMayChoose = IsExtension p_or_q (p ∷ []) × IsExtension p_or_q (q ∷ []) × (¬ IsExtension p_or_q (p ∷ q ∷ []))

-- a default does not act against a fact that is told: the theory of the fact is an extension, and that of the default's conclusion is none
abbrev pub ToldFactsBlock : Type 0
ToldFactsBlock = Accepts (with_heads (DefaultTheory p_by_default) (Not p ∷ [])) (Theory (Not p ∷ []))
    × (¬ Accepts (with_heads (DefaultTheory p_by_default) (Not p ∷ [])) (Theory (p ∷ [])))

-- each kind accepts belief sets of its own sort
abbrev pub KindsAcceptTheirSort : Type 0
KindsAcceptTheirSort = ((formulas : List Formula) (names : List Name) → ¬ Accepts (Classical formulas) (Atoms names))
    × ((items : List Item) (names : List Name) → ¬ Accepts (DefaultTheory items) (Atoms names))
    × ((rules : List ProgramRule) (formulas : List Formula) → ¬ Accepts (Program rules) (Theory formulas))
