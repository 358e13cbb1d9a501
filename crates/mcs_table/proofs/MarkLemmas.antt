-- Sets of marks, one within another.
pub use Rattle.mcs_sets.proofs.Lattice.{common_within_right as common_within}
