-- Defaults and formulas by numbers that are counted from 1.
use Rattle.std.proofs.Common.{◌≡◌, ℕ, ◌+◌, suc, List, ◌∷◌, arith, ap, slice_get}
use Rattle.mcs_system.specs.Plain.{Formula, Default, Item}
use Rattle.mcs_evidence.specs.Defaults.{defaults_of, numbered_default, numbered_formula}

pub numbered_at : (items : List Item) (k : ℕ) → numbered_default items (k + 1) ≡ slice_get (defaults_of items) k
numbered_at items k = let e : k + 1 ≡ suc k = omega arith in ap (numbered_default items) e

pub formula_at : (fs : List Formula) (k : ℕ) → numbered_formula fs (k + 1) ≡ slice_get fs k
formula_at fs k = let e : k + 1 ≡ suc k = omega arith in ap (numbered_formula fs) e

pub get_later : (d : Default) (ds : List Default) (i : ℕ) → slice_get (d ∷ ds) (i + 1) ≡ slice_get ds i
get_later d ds i = let e : i + 1 ≡ suc i = omega arith in ap (slice_get (d ∷ ds)) e
