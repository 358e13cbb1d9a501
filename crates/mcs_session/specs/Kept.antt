-- Answers of one context that are kept, each under its key.
use Rattle.std.specs.Prelude.{◌≡◌, ℕ, ◌<◌, List, [], ◌∷◌, ◌++◌, vec_len, vec_capacity}
use Rattle.indexmap.specs.IndexSet.{spare}
use Rattle.mcs_base.specs.Listings.{AreApart}
use Rattle.mcs_system.specs.Plain.{Context}
use Rattle.mcs_session.specs.Keys.{Key, AreViewsFor}
use Rattle.mcs_session.specs.Tables.{texts_in, AreNumbersOf, KeepsApart, key_parts}
use Rattle.mcs_session.specs.declared.kept.Kept.{Kept}

-- under the numbers of the parts of the key, its answer
pub record IsKeptUnder (formulas : List (List ℕ)) (contexts : List Context) (i : ℕ) (k : Key) (numbers views : List ℕ) : Type 0 where
  pub own : k.context ≡ i
  pub numbered : AreNumbersOf formulas (key_parts k) numbers
  pub answered : AreViewsFor contexts k views

-- for each key, in order
abbrev pub AreKeptUnder : List (List ℕ) → List Context → ℕ → List Key → List (List ℕ) → List (List ℕ) → Type 0
AreKeptUnder formulas contexts i [] [] [] = Unit {0}
AreKeptUnder formulas contexts i (k ∷ ks) (n ∷ ns) (v ∷ vs) = IsKeptUnder formulas contexts i k n v × AreKeptUnder formulas contexts i ks ns vs
AreKeptUnder formulas contexts i ks ns vs = ⊥

-- the answers to exactly these keys are kept, each once
pub record AreKept (contexts : List Context) (i : ℕ) (keys : List Key) (kept : Kept) : Type 0 where
  pub formulas_apart : AreApart (texts_in kept.formulas.keys)
  pub numbers_apart : AreApart (texts_in kept.numbers.keys)
  pub each : AreKeptUnder (texts_in kept.formulas.keys) contexts i keys (texts_in kept.numbers.keys) (texts_in kept.views.items)

-- ---- changes
-- there is room for one more answer
pub record HasRoom (kept : Kept) : Type 0 where
  pub numbers : 0 < spare kept.numbers
  pub views : vec_len kept.views < vec_capacity kept.views

pub record IsSameKept (old new : Kept) : Type 0 where
  pub formulas : texts_in new.formulas.keys ≡ texts_in old.formulas.keys
  pub numbers : texts_in new.numbers.keys ≡ texts_in old.numbers.keys
  pub views : texts_in new.views.items ≡ texts_in old.views.items

pub record HasPushed (old : Kept) (numbers views : List ℕ) (new : Kept) : Type 0 where
  pub formulas : texts_in new.formulas.keys ≡ texts_in old.formulas.keys
  pub numbers_are : texts_in new.numbers.keys ≡ texts_in old.numbers.keys ++ numbers ∷ []
  pub views_are : texts_in new.views.items ≡ texts_in old.views.items ++ views ∷ []

-- more formulas have numbers, and the answers are as before
pub record HasMoreFormulas (old new : Kept) : Type 0 where
  pub formulas : KeepsApart (texts_in old.formulas.keys) (texts_in new.formulas.keys)
  pub numbers : texts_in new.numbers.keys ≡ texts_in old.numbers.keys
  pub views : texts_in new.views.items ≡ texts_in old.views.items
