-- The printed form of beliefs.
use Rattle.std.specs.Prelude.{ℕ, List, [], ◌++◌, codes, Option, Some, None, slice_get}
use Rattle.mcs_system.specs.Plain.{Connective, Conjunction, Disjunction, Implication, Equivalence, Tree, Truth, Falsity, Atom, Not, Joined, Name, Formula, Context, Read, System}

abbrev pub connective_sign : Connective → List ℕ
connective_sign Conjunction = codes " & "
connective_sign Disjunction = codes " | "
connective_sign Implication = codes " -> "
connective_sign Equivalence = codes " <-> "

-- the sign of a formula of two parts
abbrev pub operator_sign : {A : Type 0} → Tree A → List ℕ
operator_sign (Joined c t u) = connective_sign c
operator_sign t = []

-- a formula of two parts, in parentheses
abbrev pub in_parentheses : List ℕ → List ℕ → List ℕ → List ℕ
in_parentheses left sign right = codes "(" ++ (left ++ (sign ++ (right ++ codes ")")))

-- by the text of a leaf: what has two parts stands in parentheses
abbrev pub tree_text : {A : Type 0} → (A → List ℕ) → Tree A → List ℕ
tree_text leaf Truth = codes "true"
tree_text leaf Falsity = codes "false"
tree_text leaf (Atom x) = leaf x
tree_text leaf (Not t) = codes "~" ++ tree_text leaf t
tree_text leaf (Joined c t u) = in_parentheses (tree_text leaf t) (connective_sign c) (tree_text leaf u)

-- a formula as a belief is printed
abbrev pub primary : Formula → List ℕ
primary f = tree_text (λ n. n) f

abbrev pub name_of_context : Option Context → Name
name_of_context None = []
name_of_context (Some c) = c.name

-- a belief of a context
abbrev pub belief_text : System → Read → List ℕ
belief_text m r = name_of_context (slice_get m.contexts r.context) ++ (codes ":" ++ primary r.belief)
