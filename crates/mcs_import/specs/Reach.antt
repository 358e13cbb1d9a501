-- Reachability by sets: one set for each context.
use Rattle.std.specs.Prelude.{◌≡◌, ℕ, ◌<◌, zero, suc, Bool, true, false, ◌&&◌, ◌||◌, not, cond, List, length, map, get_or}
use Rattle.mcs_sets.specs.Sets.{has, union, such_that, Meets}
use Rattle.mcs_system.specs.Plain.{System}
use Rattle.mcs_system.specs.Imports.{imports, Reaches}

-- whether j is reached from i where all that lies between is below k
abbrev pub reaches_below : (ℕ → ℕ → Bool) → ℕ → ℕ → ℕ → Bool
reaches_below edge zero i j = edge i j
reaches_below edge (suc k) i j = reaches_below edge k i j || (reaches_below edge k i k && reaches_below edge k k j)

-- the contexts that i imports
unfoldable pub import_row : System → ℕ → ℕ
import_row m i = such_that (length m.contexts) (imports m i)

-- a row that has k gets what the middle row has
abbrev pub through : ℕ → ℕ → ℕ → ℕ
through k middle row = cond (has row k) (union row middle) row

abbrev pub rows_through : ℕ → List ℕ → List ℕ
rows_through k rows = map (through k (get_or rows k 0)) rows

-- what row i has of those in whose rows i is not
unfoldable pub ahead_row : List ℕ → ℕ → ℕ
ahead_row rows i = such_that (length rows) (λ j. has (get_or rows i 0) j && not (has (get_or rows j 0) i))

-- row i has j exactly where i reaches j
pub record AreReached (m : System) (rows : List ℕ) : Type 0 where
  pub one_each : length rows ≡ length m.contexts
  pub reached : (i j : ℕ) → i < length rows → has (get_or rows i 0) j ≡ reaches_below (imports m) (length m.contexts) i j

-- row i has the contexts j that i reaches and that do not reach i
pub record AreAhead (m : System) (rows : List ℕ) : Type 0 where
  pub one_each : length rows ≡ length m.contexts
  pub to : (i j : ℕ) → i < length rows → has (get_or rows i 0) j ≡ true → (j < length rows) × Reaches m i j × (¬ Reaches m j i)
  pub from : (i j : ℕ) → i < length rows → j < length rows → Reaches m i j → ¬ Reaches m j i → has (get_or rows i 0) j ≡ true

-- no row has its own number, and what is in row j is in each row that has j
pub record AreStrict (rows : List ℕ) : Type 0 where
  pub in_range : (i j : ℕ) → i < length rows → has (get_or rows i 0) j ≡ true → j < length rows
  pub irreflexive : (i : ℕ) → i < length rows → has (get_or rows i 0) i ≡ false
  pub transitive : (i j k : ℕ) → i < length rows → j < length rows → has (get_or rows i 0) j ≡ true → has (get_or rows j 0) k ≡ true → has (get_or rows i 0) k ≡ true

-- i is in the set, and nothing of the set is in its row
abbrev pub IsFree : List ℕ → ℕ → ℕ → Type 0
IsFree rows set i = (has set i ≡ true) × (¬ Meets (get_or rows i 0) set)

-- the lowest such one
pub record IsFirstFree (rows : List ℕ) (set i : ℕ) : Type 0 where
  pub in_range : i < length rows
  pub free : IsFree rows set i
  pub lowest : (j : ℕ) → j < i → ¬ IsFree rows set j
