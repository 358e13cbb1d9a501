-- What the tests of sessions ask.
use Rattle.std.specs.Prelude.{◌≡◌, ℕ, List, length, Some, slice_get}
use Rattle.mcs_system.specs.Plain.{System}
use Rattle.mcs_states.specs.Oracles.{OracleState}

-- for each context of the system its oracle
pub record AreOwn (m : System) (oracles : List OracleState) : Type 0 where
  pub one_each : length oracles ≡ length m.contexts
  pub own : (i : ℕ) (o : OracleState) → slice_get oracles i ≡ Some o → (o.system ≡ m) × (o.context ≡ i)
