-- What is known of one set of defaults.
use Rattle.std.specs.Prelude.{◌≡◌, ℕ, Bool, true, false, List, [], ◌∷◌, length, Option, Some, None, slice_get}
use Rattle.mcs_sets.specs.Sets.{has, such_that}
use Rattle.mcs_system.specs.Plain.{Formula, Default, Item}
use Rattle.mcs_default.specs.Searches.{IsSupportedAt, IsUnsupportedAt, IsAllowedAt, IsBlockedAt}
use Rattle.mcs_default.specs.declared.known.Known as known

-- these defaults are supported by the set, these are not, these are not blocked by it, and these are
pub record IsKnown (items : List Item) (e : known.Known) : Type 0 where
  pub supported : (k : ℕ) → has e.supported k ≡ true → IsSupportedAt items e.set k
  pub unsupported : (k : ℕ) → has e.unsupported k ≡ true → IsUnsupportedAt items e.set k
  pub allowed : (k : ℕ) → has e.allowed k ≡ true → IsAllowedAt items e.set k
  pub blocked : (k : ℕ) → has e.blocked k ≡ true → IsBlockedAt items e.set k

-- ---- justifications
abbrev pub is_none : List Formula → Bool
is_none [] = true
is_none (j ∷ js) = false

abbrev pub lacks_justs : Option Default → Bool
lacks_justs None = false
lacks_justs (Some d) = is_none d.justs

abbrev pub lacks_justs_at : List Default → ℕ → Bool
lacks_justs_at ds k = lacks_justs (slice_get ds k)

-- the places of the defaults without a justification
abbrev pub without_justs : List Default → ℕ
without_justs ds = such_that (length ds) (lacks_justs_at ds)
