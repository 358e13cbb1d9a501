-- Numbers of formulas.
use Rattle.std.proofs.Common.{◌≡◌, ℕ, ◌+◌, ◌<◌, ◌≤◌, Bool, true, false, ◌||◌, cond, List, [], ◌∷◌, length, arith, sym, true≢false}
use Rattle.mcs_system.specs.Plain.{Name, Formula, Truth, Falsity, Atom, Not, Joined}
use Rattle.mcs_system.specs.Logic.{same_name, is_in}
use Rattle.mcs_cnf.specs.ClauseLists.{atom_number, taken, number, IsOver}

pub taken_grows : (k : ℕ) (f : Formula) → k ≤ taken k f
taken_grows k Truth = omega arith
taken_grows k Falsity = omega arith
taken_grows k (Atom n) = omega arith
taken_grows k (Not f) = omega (arith, taken_grows k f)
taken_grows k (Joined c f g) = omega (arith, taken_grows k f, taken_grows (taken k f) g)

pub atom_positive : (names : List Name) (n : Name) → 0 < atom_number names n
atom_positive [] n = omega arith
atom_positive (m ∷ names) n = at (same_name n m)
  where
    at : (b : Bool) → 0 < cond b 1 (atom_number names n + 1)
    at true = omega arith
    at false = omega arith

pub atom_near : (names : List Name) (n : Name) → atom_number names n ≤ length names + 1
atom_near [] n = omega arith
atom_near (m ∷ names) n = at (same_name n m) (atom_near names n)
  where
    at : (b : Bool) → atom_number names n ≤ length names + 1 → cond b 1 (atom_number names n + 1) ≤ length (m ∷ names) + 1
    at true near = omega arith
    at false near = omega arith

pub atom_within : (names : List Name) (n : Name) → is_in n names ≡ true → atom_number names n ≤ length names
atom_within [] n known = absurd (true≢false (sym known))
atom_within (m ∷ names) n known = at (same_name n m) known (atom_within names n)
  where
    at : (b : Bool) → (b || is_in n names) ≡ true → (is_in n names ≡ true → atom_number names n ≤ length names) → cond b 1 (atom_number names n + 1) ≤ length (m ∷ names)
    at true known rest = omega arith
    at false known rest = omega (arith, rest known)

pub number_positive : (names : List Name) (k : ℕ) (f : Formula) → 0 < number names k f
number_positive names k Truth = omega arith
number_positive names k Falsity = omega arith
number_positive names k (Atom n) = atom_positive names n
number_positive names k (Not f) = omega arith
number_positive names k (Joined c f g) = omega arith

pub number_within : (names : List Name) (k : ℕ) (f : Formula) → IsOver names f → length names ≤ k → number names k f ≤ taken k f
number_within names k Truth over room = omega arith
number_within names k Falsity over room = omega arith
number_within names k (Atom n) over room = omega (arith, atom_within names n over)
number_within names k (Not f) over room = omega arith
number_within names k (Joined c f g) over room = omega arith

pub ruleset numbers_fit = (taken_grows, number_positive, number_within)
