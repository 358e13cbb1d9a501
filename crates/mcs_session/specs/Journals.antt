-- Which keys of a journal are new, and which were kept.
use Rattle.std.specs.Prelude.{List}
use Rattle.mcs_base.specs.Listings.{IsAmong, IsInventory}
use Rattle.mcs_session.specs.Keys.{Key}

pub record IsNewKey (old asked : List Key) (k : Key) : Type 0 where
  pub asked_for : IsAmong k asked
  pub new : ¬ IsAmong k old

pub record IsKeptKey (old asked : List Key) (k : Key) : Type 0 where
  pub asked_for : IsAmong k asked
  pub kept : IsAmong k old

-- the different ones among the keys asked that are not among the old ones, each once
abbrev pub AreNewKeys : List Key → List Key → List Key → Type 0
AreNewKeys old asked keys = IsInventory (IsNewKey old asked) keys

-- the different ones that are, each once
abbrev pub AreKeptKeys : List Key → List Key → List Key → Type 0
AreKeptKeys old asked keys = IsInventory (IsKeptKey old asked) keys
