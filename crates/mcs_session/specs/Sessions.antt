-- What a session stands for, what its oracles are, and what its calls do.
use Rattle.std.specs.Prelude.{◌≡◌, ℕ, ◌<◌, ◌≤◌, Bool, List, [], length, map, take, drop, ◌++◌, Some, None, slice_get}
use Rattle.std.specs.List.{sum_by}
use Rattle.mcs_base.specs.Listings.{IsListing}
use Rattle.mcs_sets.specs.Sets.{Within}
use Rattle.mcs_sets.specs.Orders.{StateBefore}
use Rattle.mcs_system.specs.Plain.{System}
use Rattle.mcs_system.specs.Faults.{IsValid}
use Rattle.mcs_system.specs.Systems.{IsAcceptedPart}
use Rattle.mcs_system.specs.Imports.{rules_into}
use Rattle.mcs_states.specs.Oracles.{OracleState}
use Rattle.mcs_session.specs.Keys.{Key, keys_of}
use Rattle.mcs_session.specs.KeyTexts.{key_texts}
use Rattle.mcs_session.specs.Journals.{AreNewKeys, AreKeptKeys}

-- ---- questions
-- the context is one of the system's, and the rules go into it
pub record CanBeAsked (m : System) (i x : ℕ) : Type 0 where
  pub there : i < length m.contexts
  pub rules : Within x (rules_into m i)

-- the listing of what the context accepts with the heads of x
abbrev pub AreAnswersTo : System → ℕ → ℕ → List ℕ → Type 0
AreAnswersTo m i x states = IsListing (IsAcceptedPart m i x) StateBefore states

-- ---- sessions
pub record SessionState : Type 0 where
  pub system : System
  -- for each context the journal of its asker; while its oracle is lent, as this was then
  pub journals : List (List Key)
  pub lent : Bool

abbrev pub session_of : System → List (List Key) → Bool → SessionState
session_of m journals lent = record { system = m; journals = journals; lent = lent }

-- the oracle of context i, where these keys were asked before it was lent, and this was asked since
abbrev pub kept_oracle : System → ℕ → List Key → List ℕ → OracleState
kept_oracle m i keys journal = record { system = m; context = i; journal = journal; holds = None; origin = key_texts keys }

-- the same, of another system
abbrev pub of_system : System → OracleState → OracleState
of_system m o = record o { system = m }

-- the keys of its asker: those of its origin, and then the different new ones that it was asked for, each once
pub record HasAsker (o : OracleState) (keys : List Key) : Type 0 where
  pub old : List Key
  pub new : List Key
  pub keys_are : keys ≡ old ++ new
  pub origin_is : o.origin ≡ key_texts old
  pub new_are : AreNewKeys old (keys_of o.system o.context o.journal) new

-- What it was asked is told: the questions whose keys were new, each key once, and how many keys were kept. Now the new keys are kept too, and nothing was asked.
pub record HasSettled (before after : OracleState) (solved : List ℕ) (kept : ℕ) : Type 0 where
  pub old : List Key
  pub origin_is : before.origin ≡ key_texts old
  pub new_are : AreNewKeys old (keys_of before.system before.context before.journal) (keys_of before.system before.context solved)
  pub kept_keys : List Key
  pub kept_are : AreKeptKeys old (keys_of before.system before.context before.journal) kept_keys
  pub many_kept : kept ≡ length kept_keys
  pub few_new : IsValid before.system → length solved ≤ 4096
  pub few_kept : IsValid before.system → kept ≤ 4096
  pub after_is : after ≡ kept_oracle before.system before.context (old ++ keys_of before.system before.context solved) []

-- for each context its oracle, of which nothing was asked
pub record AreLent (s : SessionState) (oracles : List OracleState) : Type 0 where
  pub one_each : length oracles ≡ length s.system.contexts
  pub known : length s.journals ≡ length s.system.contexts
  pub fresh : (i : ℕ) (keys : List Key) → slice_get s.journals i ≡ Some keys → slice_get oracles i ≡ Some (kept_oracle s.system i keys [])

-- for each context an oracle of the system, which has the origin that it was lent with
pub record MayComeBack (s : SessionState) (oracles : List OracleState) : Type 0 where
  pub one_each : length oracles ≡ length s.system.contexts
  pub own : (i : ℕ) (o : OracleState) → slice_get oracles i ≡ Some o → (o.system ≡ s.system) × (o.context ≡ i)
  pub origins : (i : ℕ) (o : OracleState) (keys : List Key) → slice_get oracles i ≡ Some o → slice_get s.journals i ≡ Some keys → o.origin ≡ key_texts keys

-- what was asked of one context: keys that are new, and keys that were kept
pub record IsCounted (m : System) (i : ℕ) (old : List Key) (o : OracleState) (journal new kept : List Key) : Type 0 where
  pub new_keys : AreNewKeys old (keys_of m i o.journal) new
  pub kept_keys : AreKeptKeys old (keys_of m i o.journal) kept
  pub journal_is : journal ≡ old ++ new

-- the oracles are back, and the different keys that they were asked are counted
pub record HasBack (before : SessionState) (oracles : List OracleState) (after : SessionState) (new kept : ℕ) : Type 0 where
  pub new_lists : List (List Key)
  pub kept_lists : List (List Key)
  pub many_new : length new_lists ≡ length before.journals
  pub many_kept : length kept_lists ≡ length before.journals
  pub same_many : length after.journals ≡ length before.journals
  pub each : (i : ℕ) (old journal news kepts : List Key) (o : OracleState) → slice_get before.journals i ≡ Some old → slice_get oracles i ≡ Some o
      → slice_get after.journals i ≡ Some journal → slice_get new_lists i ≡ Some news → slice_get kept_lists i ≡ Some kepts → IsCounted before.system i old o journal news kepts
  pub new_is : new ≡ sum_by (λ (ks : List Key). length ks) new_lists
  pub kept_is : kept ≡ sum_by (λ (ks : List Key). length ks) kept_lists

-- the first ones are of the system now, and the others as they were
pub record HasRenewedSome (m : System) (before after : List OracleState) : Type 0 where
  pub some : ℕ
  pub is : after ≡ map (of_system m) (take some before) ++ drop some before
