-- What a session keeps.
use Rattle.std.specs.Prelude.{◌≡◌, ℕ, ◌*◌, ◌≤◌, Bool, true, false, List, [], length, map, Some, slice_get}
use Rattle.std.specs.List.{sum_by}
use Rattle.std.specs.Global.{Vec}
use Rattle.mcs_system.specs.Plain.{Context, System}
use Rattle.mcs_states.specs.Oracles.{OracleState}
use Rattle.mcs_session.specs.Keys.{Key}
use Rattle.mcs_session.specs.KeyTexts.{key_texts}
use Rattle.mcs_session.specs.Sessions.{kept_oracle, IsCounted}
use Rattle.mcs_session.specs.Asked.{all_keys, IsOpen}
use Rattle.mcs_session.specs.declared.asked.Asked.{Asked}

-- an oracle of context i of some system with these contexts, of which nothing was asked, and whose asker was asked these keys
pub record IsHomeOracle (contexts : List Context) (i : ℕ) (keys : List Key) (o : OracleState) : Type 0 where
  pub system : System
  pub same : system.contexts ≡ contexts
  pub is : o ≡ kept_oracle system i keys []

-- for each context
pub record AreHome (contexts : List Context) (journals : List (List Key)) (oracles : List OracleState) : Type 0 where
  pub one_each : length oracles ≡ length contexts
  pub each : (i : ℕ) (o : OracleState) (keys : List Key) → slice_get oracles i ≡ Some o → slice_get journals i ≡ Some keys → IsHomeOracle contexts i keys o

abbrev pub AreOpen : System → List (Vec Asked) → Type 0
AreOpen m lists = (i : ℕ) (own : Vec Asked) → slice_get lists i ≡ Some own → IsOpen m i own.items

pub record IsSession (m : System) (oracles : List OracleState) (asked : List (Vec Asked)) (lent : Bool) : Type 0 where
  pub many : length asked ≡ length m.contexts
  pub home : lent ≡ false → AreHome m.contexts (all_keys asked) oracles
  pub open_where_lent : lent ≡ true → AreOpen m asked

-- ---- renewing
-- of a system with the same contexts, and nothing was asked of it
pub record IsUnasked (m : System) (o : OracleState) : Type 0 where
  pub same : m.contexts ≡ o.system.contexts
  pub unasked : o.journal ≡ []

-- ---- making
-- for each context that it was asked nothing
abbrev pub no_keys : System → List (List Key)
no_keys m = map (λ (c : Context). []) m.contexts

-- ---- giving back
-- for each context an oracle of the system, which has the origin that it was lent with, and room for what it was asked
pub record AreReturned (m : System) (asked : List (Vec Asked)) (oracles : List OracleState) : Type 0 where
  pub many : length asked ≡ length m.contexts
  pub one_each : length oracles ≡ length m.contexts
  pub open_now : AreOpen m asked
  pub own : (i : ℕ) (o : OracleState) → slice_get oracles i ≡ Some o → (o.system ≡ m) × (o.context ≡ i)
  pub origins : (i : ℕ) (o : OracleState) (keys : List Key) → slice_get oracles i ≡ Some o → slice_get (all_keys asked) i ≡ Some keys → o.origin ≡ key_texts keys

-- the oracle of context i is home, and what it was asked is counted
pub record IsSettled (m : System) (i : ℕ) (keys : List Key) (o : OracleState) (keys' : List Key) (o' : OracleState) (new kept : List Key) : Type 0 where
  pub counted : IsCounted m i keys o keys' new kept
  pub home : o' ≡ kept_oracle m i keys' []

-- the oracles of the first n contexts are, and the others are as they were
pub record AreSettled (n : ℕ) (m : System) (asked : List (Vec Asked)) (oracles : List OracleState) (asked' : List (Vec Asked)) (oracles' : List OracleState) (new kept : ℕ) : Type 0 where
  pub new_lists : List (List Key)
  pub kept_lists : List (List Key)
  pub many_new : length new_lists ≡ n
  pub many_kept : length kept_lists ≡ n
  pub same_asked : length asked' ≡ length asked
  pub same_oracles : length oracles' ≡ length oracles
  pub settled : (i : ℕ) (keys keys' news kepts : List Key) (o o' : OracleState) → slice_get (all_keys asked) i ≡ Some keys → slice_get oracles i ≡ Some o
      → slice_get (all_keys asked') i ≡ Some keys' → slice_get oracles' i ≡ Some o' → slice_get new_lists i ≡ Some news → slice_get kept_lists i ≡ Some kepts → IsSettled m i keys o keys' o' news kepts
  pub asked_left : (i : ℕ) → n ≤ i → slice_get asked' i ≡ slice_get asked i
  pub oracles_left : (i : ℕ) → n ≤ i → slice_get oracles' i ≡ slice_get oracles i
  pub new_is : new ≡ sum_by (λ (ks : List Key). length ks) new_lists
  pub kept_is : kept ≡ sum_by (λ (ks : List Key). length ks) kept_lists
  pub few_new : new ≤ n * 4096
  pub few_kept : kept ≤ n * 4096
