-- Worked texts, small enough to be read at a glance.
use Rattle.std.specs.Prelude.{ℕ, true, false, nat_eq, cond, List, [], ◌∷◌, codes, Some, None}
use Rattle.mcs_system.specs.Plain as plain
use Rattle.mcs_system.specs.Plain.{Disjunction, ProgramKind, plain_rule}
use Rattle.mcs_grammar.specs.Entries.{Token}
use Rattle.mcs_grammar.specs.Written.{Denial, Named, Prefixed, Grouped, Joins, OfKind, WrittenContext, WrittenMarks, no_marks, WrittenPlace, WrittenBridge, WrittenText}

-- the tokens of a text in which one blank stands between any two of them
abbrev pub byte_onto : ℕ → List Token → List Token
byte_onto b [] = (b ∷ []) ∷ []
byte_onto b (t ∷ ts) = (b ∷ t) ∷ ts

abbrev pub tokens_apart : List ℕ → List Token
tokens_apart [] = [] ∷ []
tokens_apart (b ∷ bytes) = cond (nat_eq b 32) ([] ∷ tokens_apart bytes) (byte_onto b (tokens_apart bytes))

-- ---- a text of version 2
abbrev pub place : WrittenPlace
place = record { context = codes "c"; belief = Named (codes "a") }

abbrev pub fact : List ℕ → WrittenMarks → WrittenBridge
fact name marks = record { name = name; marks = marks; head = place; reads = [] }

abbrev pub empty_program : WrittenContext
empty_program = record { name = codes "c"; kb = OfKind ProgramKind [] }

abbrev pub of_weight : List ℕ → WrittenMarks
of_weight digits = record { keep = false; closed = false; weight = Some digits }

abbrev pub marked_text : WrittenText
marked_text = record {
  has_version = true;
  contexts = empty_program ∷ [];
  bridges =
      fact (codes "p") (record { keep = true; closed = false; weight = None })
      ∷ fact (codes "q") (record { keep = false; closed = true; weight = None })
      ∷ fact (codes "r") (of_weight (codes "1000000"))
      ∷ fact (codes "s") (record { keep = true; closed = true; weight = Some (codes "2") })
      ∷ fact (codes "t") no_marks ∷ [];
}

-- its tokens
abbrev pub marked_tokens : List Token
marked_tokens = tokens_apart (codes
    "version 2 . context c program { } bridge p keep : c : a . bridge q closed : c : a . bridge r weight 1000000 : c : a . bridge s keep closed weight 2 : c : a . bridge t : c : a .")

-- what it says
abbrev pub plain_fact : List ℕ → plain.Bridge
plain_fact name = plain_rule name 0 (plain.Atom (codes "a")) [] []

abbrev pub marked_system : plain.System
marked_system = record {
  contexts = record { name = codes "c"; kb = plain.Program [] } ∷ [];
  bridges =
      record (plain_fact (codes "p")) { keep = true }
      ∷ record (plain_fact (codes "q")) { closed = true }
      ∷ record (plain_fact (codes "r")) { weight = 1000000 }
      ∷ record (plain_fact (codes "s")) { keep = true; closed = true; weight = 2 }
      ∷ plain_fact (codes "t") ∷ [];
}

-- ---- a bridge rule by itself
abbrev pub lone_rule : WrittenBridge
lone_rule = record {
  name = codes "r";
  marks = record { keep = true; closed = false; weight = Some (codes "3") };
  head = place;
  reads = record { denied = true; place = record { context = codes "d"; belief = Grouped (Joins Disjunction (Named (codes "b")) (Prefixed Denial (Named (codes "b")))) } } ∷ [];
}

abbrev pub lone_tokens : List Token
lone_tokens = tokens_apart (codes "bridge r keep weight 3 : c : a if not d : ( b | ~ b ) .")

-- where the contexts are c and d
abbrev pub lone_bridge : plain.Bridge
lone_bridge = record (plain.plain_rule (codes "r") 0 (plain.Atom (codes "a")) [] (record { context = 1; belief = plain.Or (plain.Atom (codes "b")) (plain.Not (plain.Atom (codes "b"))) } ∷ [])) { keep = true; weight = 3 }
