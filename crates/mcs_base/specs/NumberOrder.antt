-- The order of numbers answers Equal where they are equal.
use Rattle.std.specs.Prelude.{◌≡◌, ℕ, nat_eq}
use Rattle.std.proofs.Common.{arith}
use Rattle.std.proofs.lemmas.Bool.Decides.{nat_tests}
use Rattle.std.specs.Ordering.{nat_cmp, eq_by_cmp}

pub nat_tie : (a b : ℕ) → nat_eq a b ≡ eq_by_cmp nat_cmp a b
nat_tie a b = grind (arith, nat_tests)
