-- What an oracle keeps of the keys that it was asked.
use Rattle.std.specs.Prelude.{◌≡◌, ℕ, ◌<◌, ◌≤◌, ◌↔◌, Bool, true, List, length, take, drop, [], ◌∷◌, ◌++◌, Some, slice_get}
use Rattle.std.specs.List.{AllByRecursion}
use Rattle.mcs_base.specs.Listings.{IsAmong}
use Rattle.mcs_sets.specs.Sets.{Within}
use Rattle.mcs_system.specs.Plain.{System}
use Rattle.mcs_system.specs.Imports.{rules_into}
use Rattle.mcs_session.specs.Keys.{Key, key_of, keys_of}
use Rattle.mcs_session.specs.Journals.{AreNewKeys}
use Rattle.mcs_session.specs.Kept.{AreKept}
use Rattle.mcs_session.specs.Tables.{texts_in, key_parts, AreNumbersOf, AreWordsOf}
use Rattle.mcs_session.specs.declared.kept.Kept.{Kept}
use Rattle.mcs_session.specs.declared.words.Words.{Words}

-- The first `origin` keys were kept before, the others are the new ones, those of the new questions; `seen` tells which of all keys were asked since.
pub record IsJournalled (m : System) (i : ℕ) (keys : List Key) (origin : ℕ) (seen : List Bool) (journal new : List ℕ) : Type 0 where
  pub questions : AllByRecursion (λ x. Within x (rules_into m i)) journal
  pub few : origin ≤ length keys
  pub many : length seen ≡ length keys
  pub seen_are : (p : ℕ) (k : Key) → slice_get keys p ≡ Some k → (slice_get seen p ≡ Some true) ↔ IsAmong k (keys_of m i journal)
  pub new_are : keys_of m i new ≡ drop origin keys
  pub exact : AreNewKeys (take origin keys) (keys_of m i journal) (drop origin keys)

-- the keys are those of the journal of its asker, and the answer of each is kept
pub record IsOracleOf (m : System) (i : ℕ) (keys : List Key) (kept : Kept) (words : Words) (origin : ℕ) (seen : List Bool) (journal new : List ℕ) : Type 0 where
  pub there : i < length m.contexts
  pub answers : AreKept m.contexts i keys kept
  pub numbers : AreWordsOf (texts_in kept.formulas.keys) m i words
  pub journalled : IsJournalled m i keys origin seen journal new

-- ---- solving
-- a question whose key has no answer yet, and the numbers under which it is to be kept
pub record IsToSolve (m : System) (i x : ℕ) (keys : List Key) (kept : Kept) (numbers : List ℕ) : Type 0 where
  pub there : i < length m.contexts
  pub rules : Within x (rules_into m i)
  pub answers : AreKept m.contexts i keys kept
  pub numbered : AreNumbersOf (texts_in kept.formulas.keys) (key_parts (key_of m i x)) numbers
  pub new : ¬ IsAmong numbers (texts_in kept.numbers.keys)

-- the answers to these keys are kept, and the formulas have the numbers that they had
pub record IsKeptOn (m : System) (i : ℕ) (keys : List Key) (old new : Kept) : Type 0 where
  pub answers : AreKept m.contexts i keys new
  pub formulas : texts_in new.formulas.keys ≡ texts_in old.formulas.keys

-- the journal has the key of the question, and its answer is kept
pub record HasSolved (m : System) (i x : ℕ) (before after : List Key) (old new : Kept) : Type 0 where
  pub journal : after ≡ before ++ key_of m i x ∷ []
  pub kept : IsKeptOn m i after old new
  pub unknown : ¬ IsAmong (key_of m i x) before
