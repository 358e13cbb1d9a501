-- Worked keys, small enough to be read at a glance.
use Rattle.std.specs.Prelude.{◌≡◌, ℕ, List, [], ◌∷◌, codes}
use Rattle.mcs_system.specs.Plain.{Formula, Atom, Program, Context, Bridge, System, plain_rule}
use Rattle.mcs_session.specs.Keys.{Key, keys_of, places_in}
use Rattle.mcs_session.specs.KeyTexts.{key_text}
use Rattle.mcs_session.specs.Journals.{AreNewKeys, AreKeptKeys}

-- context c1 program { a. } context c2 program { :- p. }
abbrev pub two_contexts : List Context
two_contexts =
    record { name = codes "c1"; kb = Program (record { head = codes "a" ∷ []; pos = []; neg = [] } ∷ []) }
    ∷ record { name = codes "c2"; kb = Program (record { head = []; pos = codes "p" ∷ []; neg = [] } ∷ []) } ∷ []

-- bridge r1: c2:p if c1:a.
abbrev pub one_rule : Bridge
one_rule = plain_rule (codes "r1") 1 (Atom (codes "p")) (record { context = 0; belief = Atom (codes "a") } ∷ []) []

abbrev pub without_rule : System
without_rule = record { contexts = two_contexts; bridges = [] }

abbrev pub with_rule : System
with_rule = record { contexts = two_contexts; bridges = one_rule ∷ [] }

abbrev pub the_key : ℕ → List Formula → List Formula → Key
the_key i heads beliefs = record { context = i; heads = heads; beliefs = beliefs }

-- a listing without the rule asks each context once, with no heads and no beliefs
pub record FirstKeysAreNew : Type 0 where
  pub first : keys_of without_rule 0 (0 ∷ []) ≡ the_key 0 [] [] ∷ []
  pub second : keys_of without_rule 1 (0 ∷ []) ≡ the_key 1 [] [] ∷ []
  pub new_keys : AreNewKeys [] (the_key 0 [] [] ∷ []) (the_key 0 [] [] ∷ [])
  pub none_kept : AreKeptKeys [] (the_key 0 [] [] ∷ []) []

-- with the rule, c1 has a belief, which makes a new key; c2 is asked without the head, whose key was kept, and with it
pub record LaterKeysAreKept : Type 0 where
  pub first : keys_of with_rule 0 (0 ∷ []) ≡ the_key 0 [] (Atom (codes "a") ∷ []) ∷ []
  pub second : keys_of with_rule 1 (0 ∷ 1 ∷ []) ≡ the_key 1 [] [] ∷ the_key 1 (Atom (codes "p") ∷ []) [] ∷ []
  pub new_key : AreNewKeys (the_key 1 [] [] ∷ []) (keys_of with_rule 1 (0 ∷ 1 ∷ [])) (the_key 1 (Atom (codes "p") ∷ []) [] ∷ [])
  pub kept_key : AreKeptKeys (the_key 1 [] [] ∷ []) (keys_of with_rule 1 (0 ∷ 1 ∷ [])) (the_key 1 [] [] ∷ [])

-- ---- texts and places
pub record KeysHaveTexts : Type 0 where
  -- of context 1, with the head p, whose byte is 112, and no belief
  pub with_head : key_text (the_key 1 (Atom (codes "p") ∷ []) []) ≡ 1 ∷ 1 ∷ 2 ∷ 1 ∷ 112 ∷ 0 ∷ 0 ∷ []
  -- of context 0, with no head and the belief a, whose byte is 97
  pub with_belief : key_text (the_key 0 [] (Atom (codes "a") ∷ [])) ≡ 0 ∷ 0 ∷ 1 ∷ 2 ∷ 1 ∷ 97 ∷ 0 ∷ []
  -- of the set {2, 3} the part {3} stands at place 1
  pub place : places_in 12 8 ≡ 2
