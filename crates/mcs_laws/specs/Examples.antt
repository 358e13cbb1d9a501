-- Worked systems and contexts, small enough to be read at a glance.
use Rattle.std.specs.Prelude.{ℕ, Bool, true, false, IsTrue, ◌↔◌, List, [], ◌∷◌, codes}
use Rattle.mcs_system.specs.Plain.{Name, Formula, Truth, Atom, Not, ProgramRule, Item, Fact, Rule, Classical, Program, Context, Read, System, plain_rule}
use Rattle.mcs_system.specs.Logic.{is_in}

-- the same names are in both lists
abbrev pub SameNames : List Name → List Name → Type 0
SameNames xs ys = (n : Name) → IsTrue (is_in n xs) ↔ IsTrue (is_in n ys)

abbrev pub name_a : Name
name_a = codes "a"

abbrev pub name_b : Name
name_b = codes "b"

abbrev pub p : Formula
p = Atom (codes "p")

abbrev pub q : Formula
q = Atom (codes "q")

-- ---- systems
abbrev pub p_of_0 : Read
p_of_0 = record { context = 0; belief = p }

abbrev pub example_context : Context
example_context = record { name = name_a; kb = Classical [] }

-- (a: p) <- (a: p).
abbrev pub self_support : System
self_support = record {
  contexts = example_context ∷ [];
  bridges = plain_rule (codes "r") 0 p (p_of_0 ∷ []) [] ∷ [];
}

-- (a: p) <- not (a: p)., which is kept, and closed, where the one and the other says so
abbrev pub against_itself_where : Bool → Bool → System
against_itself_where keep closed = record {
  contexts = example_context ∷ [];
  bridges = record (plain_rule (codes "r") 0 p [] (p_of_0 ∷ [])) { keep = keep; closed = closed } ∷ [];
}

abbrev pub against_itself : System
against_itself = against_itself_where false false

-- (a: p)., which is kept
abbrev pub kept_fact : System
kept_fact = record {
  contexts = example_context ∷ [];
  bridges = record (plain_rule (codes "r") 0 p [] []) { keep = true } ∷ [];
}

-- (a: p) <- (a: p), not (a: p)., which is closed
abbrev pub closed_never : System
closed_never = record {
  contexts = example_context ∷ [];
  bridges = record (plain_rule (codes "r") 0 p (p_of_0 ∷ []) (p_of_0 ∷ [])) { closed = true } ∷ [];
}

-- (a: p)., of this weight
abbrev pub fact_of_weight : ℕ → System
fact_of_weight weight = record {
  contexts = example_context ∷ [];
  bridges = record (plain_rule (codes "r") 0 p [] []) { weight = weight } ∷ [];
}

-- (b: p) <- (a: p).
abbrev pub one_reads_other : System
one_reads_other = record {
  contexts = example_context ∷ record { name = name_b; kb = Classical [] } ∷ [];
  bridges = plain_rule (codes "r") 1 p (p_of_0 ∷ []) [] ∷ [];
}

-- p. in a, (b: p) <- (a: p).
abbrev pub one_reads_fact : System
one_reads_fact = record {
  contexts = record { name = name_a; kb = Classical (p ∷ []) } ∷ record { name = name_b; kb = Classical [] } ∷ [];
  bridges = plain_rule (codes "r") 1 p (p_of_0 ∷ []) [] ∷ [];
}

-- ---- programs
-- a | b.
abbrev pub a_or_b : List ProgramRule
a_or_b = record { head = name_a ∷ name_b ∷ []; pos = []; neg = [] } ∷ []

-- a :- not b.
abbrev pub a_unless_b : List ProgramRule
a_unless_b = record { head = name_a ∷ []; pos = []; neg = name_b ∷ [] } ∷ []

-- a :- not a.
abbrev pub a_unless_a : List ProgramRule
a_unless_a = record { head = name_a ∷ []; pos = []; neg = name_a ∷ [] } ∷ []

-- a :- a.
abbrev pub a_if_a : List ProgramRule
a_if_a = record { head = name_a ∷ []; pos = name_a ∷ []; neg = [] } ∷ []

-- b :- a.
abbrev pub b_if_a : List ProgramRule
b_if_a = record { head = name_b ∷ []; pos = name_a ∷ []; neg = [] } ∷ []

-- ---- programs in systems
-- a :- not a.
abbrev pub paradox : Context
paradox = record { name = name_a; kb = Program a_unless_a }

-- (a: b). into it
abbrev pub told_paradox : System
told_paradox = record {
  contexts = paradox ∷ [];
  bridges = plain_rule (codes "r") 0 (Atom name_b) [] [] ∷ [];
}

-- ---- default theories
abbrev pub name_bird : Name
name_bird = codes "bird"

abbrev pub name_flies : Name
name_flies = codes "flies"

abbrev pub bird : Formula
bird = Atom name_bird

abbrev pub flies : Formula
flies = Atom name_flies

-- bird. bird : flies / flies.
abbrev pub birds : List Item
birds = Fact bird ∷ Rule (record { pre = bird; justs = flies ∷ []; conclusion = flies }) ∷ []

-- p : p / p.
abbrev pub p_by_itself : List Item
p_by_itself = Rule (record { pre = p; justs = p ∷ []; conclusion = p }) ∷ []

-- true : p / p.
abbrev pub p_by_default : List Item
p_by_default = Rule (record { pre = Truth; justs = p ∷ []; conclusion = p }) ∷ []

-- true : ~q / p. true : ~p / q.
abbrev pub p_or_q : List Item
p_or_q =
    Rule (record { pre = Truth; justs = Not q ∷ []; conclusion = p })
    ∷ Rule (record { pre = Truth; justs = Not p ∷ []; conclusion = q })
    ∷ []
