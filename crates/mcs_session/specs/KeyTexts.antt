-- The texts of keys.
use Rattle.std.specs.Prelude.{ℕ, List, [], ◌∷◌, ◌++◌, map, length}
use Rattle.mcs_system.specs.Plain.{Formula, Truth, Falsity, Atom, Not, And, Or, Implies, Iff}
use Rattle.mcs_session.specs.Keys.{Key}

-- a formula: a number for its kind, and then its parts; a name has its length before it
abbrev pub formula_text : Formula → List ℕ
formula_text Truth = 0 ∷ []
formula_text Falsity = 1 ∷ []
formula_text (Atom n) = 2 ∷ length n ∷ n
formula_text (Not f) = 3 ∷ formula_text f
formula_text (And f g) = 4 ∷ formula_text f ++ formula_text g
formula_text (Or f g) = 5 ∷ formula_text f ++ formula_text g
formula_text (Implies f g) = 6 ∷ formula_text f ++ formula_text g
formula_text (Iff f g) = 7 ∷ formula_text f ++ formula_text g

-- a list of formulas: each behind a 1, and a 0 at the end
abbrev pub formulas_text : List Formula → List ℕ
formulas_text [] = 0 ∷ []
formulas_text (f ∷ fs) = 1 ∷ formula_text f ++ formulas_text fs

-- a key as a text, which no other key has
abbrev pub key_text : Key → List ℕ
key_text k = k.context ∷ formulas_text k.heads ++ formulas_text k.beliefs

abbrev pub key_texts : List Key → List (List ℕ)
key_texts ks = map key_text ks
