-- What sets of numbers below a bound stay within.
pub use Rattle.mcs_sets.proofs.Lattice.{none-lt as empty_fits}
