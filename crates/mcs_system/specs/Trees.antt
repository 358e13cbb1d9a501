-- Formulas as trees: constants, leaves, denials, and two parts with a connective. What a leaf is is left open.
use Rattle.std.specs.Prelude.{ℕ, ◌+◌, Bool, true, false, not, ◌&&◌, ◌||◌, List, [], ◌∷◌, ◌++◌}

pub data Connective : Type 0 where
  Conjunction : Connective
  Disjunction : Connective
  Implication : Connective
  Equivalence : Connective

pub data Tree (A : Type 0) : Type 0 where
  Truth : Tree A
  Falsity : Tree A
  Atom : (leaf : A) → Tree A
  Not : (t : Tree A) → Tree A
  Joined : (c : Connective) (t u : Tree A) → Tree A

-- ---- of a connective
abbrev pub both_or_neither : Bool → Bool → Bool
both_or_neither true y = y
both_or_neither false y = not y

abbrev pub joined_value : Connective → Bool → Bool → Bool
joined_value Conjunction x y = x && y
joined_value Disjunction x y = x || y
joined_value Implication x y = not x || y
joined_value Equivalence x y = both_or_neither x y

abbrev pub same_connective : Connective → Connective → Bool
same_connective Conjunction Conjunction = true
same_connective Disjunction Disjunction = true
same_connective Implication Implication = true
same_connective Equivalence Equivalence = true
same_connective c d = false

abbrev pub connective_number : Connective → ℕ
connective_number Conjunction = 0
connective_number Disjunction = 1
connective_number Implication = 2
connective_number Equivalence = 3

-- ---- of a tree
-- whether it holds, by the leaves that hold
abbrev pub value : {A : Type 0} → (A → Bool) → Tree A → Bool
value holds Truth = true
value holds Falsity = false
value holds (Atom x) = holds x
value holds (Not t) = not (value holds t)
value holds (Joined c t u) = joined_value c (value holds t) (value holds u)

-- from the left
abbrev pub leaves : {A : Type 0} → Tree A → List A
leaves Truth = []
leaves Falsity = []
leaves (Atom x) = x ∷ []
leaves (Not t) = leaves t
leaves (Joined c t u) = leaves t ++ leaves u

-- constants and connectives count one each, a leaf as it says
abbrev pub tree_size : {A : Type 0} → (A → ℕ) → Tree A → ℕ
tree_size size Truth = 1
tree_size size Falsity = 1
tree_size size (Atom x) = size x
tree_size size (Not t) = tree_size size t + 1
tree_size size (Joined c t u) = tree_size size t + tree_size size u + 1

-- by a test of leaves
abbrev pub same_tree : {A : Type 0} → (A → A → Bool) → Tree A → Tree A → Bool
same_tree same Truth Truth = true
same_tree same Falsity Falsity = true
same_tree same (Atom x) (Atom y) = same x y
same_tree same (Not t) (Not u) = same_tree same t u
same_tree same (Joined c t t') (Joined d u u') = same_connective c d && (same_tree same t u && same_tree same t' u')
same_tree same t u = false

-- each leaf is as it should be
abbrev pub AllLeaves : {A : Type 0} → (A → Type 0) → Tree A → Type 0
AllLeaves P Truth = Unit {0}
AllLeaves P Falsity = Unit {0}
AllLeaves P (Atom x) = P x
AllLeaves P (Not t) = AllLeaves P t
AllLeaves P (Joined c t u) = AllLeaves P t × AllLeaves P u

-- by numbers, before those of what comes after it
unfoldable pub tree_code : {A : Type 0} → (A → List ℕ → List ℕ) → Tree A → List ℕ → List ℕ
tree_code leaf Truth rest = 0 ∷ rest
tree_code leaf Falsity rest = 1 ∷ rest
tree_code leaf (Atom x) rest = 2 ∷ leaf x rest
tree_code leaf (Not t) rest = 3 ∷ tree_code leaf t rest
tree_code leaf (Joined c t u) rest = 4 ∷ connective_number c ∷ tree_code leaf t (tree_code leaf u rest)
