-- The systems that a script lists, and the keys of the questions that their listings take.
use Rattle.std.specs.Prelude.{◌≡◌, ℕ, ◌<◌, List, [], ◌∷◌, length, Some, slice_get}
use Rattle.mcs_system.specs.Plain.{System}
use Rattle.mcs_system.specs.Levels.{IsQuestionAt}
use Rattle.mcs_work.specs.Tasks.{IsLastRepairLevel}
use Rattle.mcs_session.specs.Keys.{Key, key_of}
use Rattle.mcs_script.specs.Edits.{Edit, Added, Dropped, Listed, edited}

-- ---- edits
-- for each listing that is asked for, in order, the system as it is then
abbrev pub listed_systems : System → List Edit → List System
listed_systems m [] = []
listed_systems m (Added b ∷ es) = listed_systems (edited m (Added b)) es
listed_systems m (Dropped n ∷ es) = listed_systems (edited m (Dropped n)) es
listed_systems m (Listed ∷ es) = m ∷ listed_systems m es

-- ---- keys
-- The key is that of a question which the listing of the system takes: of level 0 where the system is consistent, and of the level that is the number of its rules where it is not.
pub record IsKeyOfListing (m : System) (k : Key) : Type 0 where
  pub level : ℕ
  pub last : IsLastRepairLevel m level
  pub context : ℕ
  pub there : context < length m.contexts
  pub question : ℕ
  pub asked : IsQuestionAt m level context question
  pub key_is : k ≡ key_of m context question

-- one of the first listings, so many, has it
pub record IsKeyOfFirst (systems : List System) (many : ℕ) (k : Key) : Type 0 where
  pub place : ℕ
  pub earlier : place < many
  pub system : System
  pub is_there : slice_get systems place ≡ Some system
  pub of_listing : IsKeyOfListing system k

-- it is new at the listing of m, before which there are so many: none of these has it
pub record IsNewKeyAt (systems : List System) (many : ℕ) (m : System) (k : Key) : Type 0 where
  pub of_listing : IsKeyOfListing m k
  pub new : ¬ IsKeyOfFirst systems many k

-- it was kept: one of them has it
pub record IsKeptKeyAt (systems : List System) (many : ℕ) (m : System) (k : Key) : Type 0 where
  pub of_listing : IsKeyOfListing m k
  pub kept : IsKeyOfFirst systems many k
