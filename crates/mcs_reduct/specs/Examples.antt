-- Worked systems, small enough to be read at a glance.
use Rattle.std.specs.Prelude.{List, [], ◌∷◌, codes}
use Rattle.mcs_system.specs.Plain.{Name, ProgramRule, Classical, Program, Context, Read, System, plain_rule}
use Rattle.mcs_laws.specs.Examples.{name_a, name_b, p, q, p_of_0}

-- the atoms p and q
abbrev pub name_p : Name
name_p = codes "p"

abbrev pub name_q : Name
name_q = codes "q"

abbrev pub p_of_1 : Read
p_of_1 = record { context = 1; belief = p }

abbrev pub context_a : Context
context_a = record { name = name_a; kb = Classical [] }

abbrev pub context_b : Context
context_b = record { name = name_b; kb = Classical [] }

-- (a: p) <- (b: p). (b: p) <- (a: p).
abbrev pub mutual_support : System
mutual_support = record {
  contexts = context_a ∷ context_b ∷ [];
  bridges = plain_rule (codes "r") 0 p (p_of_1 ∷ []) [] ∷ plain_rule (codes "s") 1 p (p_of_0 ∷ []) [] ∷ [];
}

-- (a: p) <- not (b: p). (b: p) <- not (a: p).
abbrev pub mutual_attack : System
mutual_attack = record {
  contexts = context_a ∷ context_b ∷ [];
  bridges = plain_rule (codes "r") 0 p [] (p_of_1 ∷ []) ∷ plain_rule (codes "s") 1 p [] (p_of_0 ∷ []) ∷ [];
}

abbrev pub empty_program : Context
empty_program = record { name = name_a; kb = Program [] }

-- (a: p) <- (a: p). (a: q) <- not (a: p).
abbrev pub itself_or_other : System
itself_or_other = record {
  contexts = empty_program ∷ [];
  bridges = plain_rule (codes "r") 0 p (p_of_0 ∷ []) [] ∷ plain_rule (codes "s") 0 q [] (p_of_0 ∷ []) ∷ [];
}

-- ---- programs
-- a :- not b. b :- not a.
abbrev pub one_of_two : List ProgramRule
one_of_two = record { head = name_a ∷ []; pos = []; neg = name_b ∷ [] } ∷ record { head = name_b ∷ []; pos = []; neg = name_a ∷ [] } ∷ []

-- two contexts with this program, and no bridge rule
abbrev pub two_choices : System
two_choices = record {
  contexts = record { name = name_a; kb = Program one_of_two } ∷ record { name = name_b; kb = Program one_of_two } ∷ [];
  bridges = [];
}

-- :- a.
abbrev pub no_a : List ProgramRule
no_a = record { head = []; pos = name_a ∷ []; neg = [] } ∷ []

-- a | a.
abbrev pub a_or_a : List ProgramRule
a_or_a = record { head = name_a ∷ name_a ∷ []; pos = []; neg = [] } ∷ []
