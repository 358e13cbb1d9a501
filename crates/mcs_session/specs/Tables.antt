-- Texts that are numbered, and what keys are by the numbers of their parts.
use Rattle.std.specs.Prelude.{◌≡◌, ℕ, ◌<◌, List, [], ◌∷◌, ◌++◌, map, filter, Some, slice_get}
use Rattle.std.specs.Global.{Vec}
use Rattle.std.specs.List.{AllByRecursion}
use Rattle.mcs_base.specs.Listings.{AreApart}
use Rattle.mcs_sets.specs.Sets.{has}
use Rattle.mcs_system.specs.Plain.{Formula, Truth, Falsity, Atom, Not, And, Or, Implies, Iff, System}
use Rattle.mcs_system.specs.Systems.{variables_of, heads_into}
use Rattle.mcs_system.specs.Views.{beliefs_at}
use Rattle.mcs_session.specs.Keys.{Key}
use Rattle.mcs_session.specs.KeyTexts.{formula_text, formulas_text}
use Rattle.mcs_session.specs.declared.words.Head.{Head}
use Rattle.mcs_session.specs.declared.words.Words.{Words}

-- the texts of a table, each a list of numbers, in the order in which they were added
abbrev pub texts_in : List (Vec ℕ) → List (List ℕ)
texts_in keys = map (λ (v : Vec ℕ). v.items) keys

-- the table has only grown
pub record HasGrown (old new : List (List ℕ)) : Type 0 where
  pub more : List (List ℕ)
  pub is : new ≡ old ++ more

-- and its texts are still different, if they were
pub record KeepsApart (old new : List (List ℕ)) : Type 0 where
  pub grown : HasGrown old new
  pub apart : AreApart old → AreApart new

-- these are the numbers of the texts in the table
abbrev pub AreNumbersOf : List (List ℕ) → List (List ℕ) → List ℕ → Type 0
AreNumbersOf table [] [] = Unit {0}
AreNumbersOf table (t ∷ ts) (n ∷ ns) = (slice_get table n ≡ Some t) × AreNumbersOf table ts ns
AreNumbersOf table ts ns = ⊥

-- ---- keys by numbers
-- with what the text of a formula begins
abbrev pub kind_number : Formula → ℕ
kind_number Truth = 0
kind_number Falsity = 1
kind_number (Atom n) = 2
kind_number (Not f) = 3
kind_number (And f g) = 4
kind_number (Or f g) = 5
kind_number (Implies f g) = 6
kind_number (Iff f g) = 7

-- the texts by whose numbers a key of a context is kept
abbrev pub key_parts : Key → List (List ℕ)
key_parts k = formulas_text k.beliefs ∷ map formula_text k.heads

-- ---- the numbers of what a context of a system may be asked
abbrev pub head_numbers : ℕ → List Head → List ℕ
head_numbers x heads = map (λ (h : Head). h.number) (filter (λ (h : Head). has x h.rule) heads)

pub record AreHeadsOf (table : List (List ℕ)) (m : System) (i : ℕ) (heads : List Head) : Type 0 where
  pub rules : AllByRecursion (λ (h : Head). h.rule < 64) heads
  pub numbered : (x : ℕ) → AreNumbersOf table (map formula_text (heads_into m i x)) (head_numbers x heads)

pub record AreWordsOf (table : List (List ℕ)) (m : System) (i : ℕ) (w : Words) : Type 0 where
  pub beliefs_are : slice_get table w.beliefs ≡ Some (formulas_text (beliefs_at m (variables_of m i)))
  pub heads_are : AreHeadsOf table m i w.heads.items
