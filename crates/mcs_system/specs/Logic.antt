-- Assignments, consequence, belief sets and what each kind of context accepts.
use Rattle.std.specs.Prelude.{◌≡◌, ℕ, ◌+◌, cond, Bool, false, not, ◌||◌, IsTrue, List, [], ◌∷◌, ◌++◌, map, filter}
use Rattle.std.specs.Str.{bytes_eq}
use Rattle.std.specs.List.{list_any, list_all, AllByRecursion, filter_map, flat_map}
use Rattle.std.specs.Prelude.{Option, Some, None}
use Rattle.mcs_sets.specs.Sets.{has}
pub use Rattle.mcs_system.specs.Trees.{both_or_neither}
use Rattle.mcs_system.specs.Trees.{value, leaves}
use Rattle.mcs_system.specs.Plain.{Name, Formula, Atom, Not, ProgramRule, Item, Fact, Rule, Kind, ClassicalKind, DefaultKind, ProgramKind, ItemOf, Kb, OfKind, Classical, DefaultTheory, Program}

abbrev pub same_name : Name → Name → Bool
same_name x y = bytes_eq x y

-- whether the name is among these
abbrev pub is_in : Name → List Name → Bool
is_in n names = list_any (same_name n) names

-- An assignment is the list of the names that are true.
abbrev pub holds : List Name → Formula → Bool
holds a f = value (λ n. is_in n a) f

-- the atoms of a formula, from the left
abbrev pub atoms : Formula → List Name
atoms f = leaves f

abbrev pub all_atoms : List Formula → List Name
all_atoms fs = flat_map atoms fs

-- those of the names whose places, the first one being k, are in the set
abbrev pub true_names : ℕ → List Name → ℕ → List Name
true_names k [] s = []
true_names k (n ∷ ns) s = cond (has s k) (n ∷ true_names (k + 1) ns s) (true_names (k + 1) ns s)

abbrev pub holds_all : List Name → List Formula → Bool
holds_all a fs = list_all (holds a) fs

-- every assignment under which all of the list holds has p
abbrev pub Entails : List Formula → Formula → Type 0
Entails fs p = (a : List Name) → IsTrue (holds_all a fs) → IsTrue (holds a p)

-- `Theory fs` stands for all consequences of the list
pub data BeliefSet : Type 0 where
  Theory : (formulas : List Formula) → BeliefSet
  Atoms : (names : List Name) → BeliefSet

abbrev pub Believes : BeliefSet → Formula → Type 0
Believes (Theory fs) p = Entails fs p
Believes (Atoms names) (Atom n) = IsTrue (is_in n names)
Believes (Atoms names) p = ⊥

-- ---- classical: the two lists hold under the same assignments
abbrev pub SameModels : List Formula → List Formula → Type 0
SameModels fs gs = (a : List Name) → holds_all a fs ≡ holds_all a gs

-- ---- default theories (Reiter)
-- what the theory of f owes to an item, where justifications are tested against the theory of e
abbrev pub Owes : List Formula → List Formula → Item → Type 0
Owes f e (Fact p) = Entails f p
Owes f e (Rule d) = Entails f d.pre → AllByRecursion (λ j. ¬ Entails e (Not j)) d.justs → Entails f d.conclusion

abbrev pub IsClosed : List Item → List Formula → List Formula → Type 0
IsClosed items f e = AllByRecursion (Owes f e) items

pub record IsExtension (items : List Item) (e : List Formula) : Type 0 where
  pub closed : IsClosed items e e
  pub least : (f : List Formula) → IsClosed items f e → AllByRecursion (Entails f) e

-- ---- programs (Gelfond and Lifschitz)
abbrev pub without_negation : ProgramRule → ProgramRule
without_negation r = record { head = r.head; pos = r.pos; neg = [] }

abbrev pub reduct : List Name → List ProgramRule → List ProgramRule
reduct a rules = map without_negation (filter (λ r. not (list_any (λ n. is_in n a) r.neg)) rules)

-- of a rule without negation
abbrev pub satisfies : List Name → ProgramRule → Bool
satisfies a r = not (list_all (λ n. is_in n a) r.pos) || list_any (λ n. is_in n a) r.head

pub record IsProperSubset (a b : List Name) : Type 0 where
  pub within : (n : Name) → IsTrue (is_in n a) → IsTrue (is_in n b)
  pub more : Name
  pub in_second : IsTrue (is_in more b)
  pub not_in_first : is_in more a ≡ false

pub record IsAnswerSet (rules : List ProgramRule) (a : List Name) : Type 0 where
  pub model : IsTrue (list_all (satisfies a) (reduct a rules))
  pub minimal : (b : List Name) → IsProperSubset b a → ¬ IsTrue (list_all (satisfies b) (reduct a rules))

-- each kind accepts belief sets of one sort
abbrev pub Accepts : Kb → BeliefSet → Type 0
Accepts (Classical formulas) (Theory e) = SameModels e formulas
Accepts (DefaultTheory items) (Theory e) = IsExtension items e
Accepts (Program rules) (Atoms a) = IsAnswerSet rules a
Accepts kb b = ⊥

-- the rule whose one head is this atom; another formula is no head into a program
abbrev pub fact_of : Formula → Option ProgramRule
fact_of (Atom n) = Some (record { head = n ∷ []; pos = []; neg = [] })
fact_of f = None

-- the items that a knowledge base of the kind is told by the heads
abbrev pub told_to : (k : Kind) → List Formula → List (ItemOf k)
told_to ClassicalKind heads = heads
told_to DefaultKind heads = map Fact heads
told_to ProgramKind heads = filter_map fact_of heads

abbrev pub with_heads : Kb → List Formula → Kb
with_heads (OfKind k items) heads = OfKind k (items ++ told_to k heads)

-- the context is classical
abbrev pub IsClassical : Kb → Type 0
IsClassical (Classical formulas) = Unit {0}
IsClassical kb = ⊥
