-- Names, formulas and reads that pass the tests of sameness are equal.
use Rattle.std.proofs.Common.{◌≡◌, ℕ, true, eqb, ap, ◌∙◌, arith}
use Rattle.std.proofs.lemmas.Bool.{and_parts}
use Rattle.std.proofs.lemmas.Bool.Decides.{nat_tests}
use Rattle.mcs_system.specs.Plain.{Formula, Read}
use Rattle.mcs_system.specs.Systems.{same_formula, same_read}
pub use Rattle.mcs_system.specs.Equality.{same_name-is, same_name-itself, same_formula-is, same_formula-itself}

abbrev read_at : ℕ → Formula → Read
read_at c f = record { context = c; belief = f }

pub same_read-is : (q r : Read) → same_read q r ≡ true → q ≡ r
same_read-is q r e =
    let parts = and_parts (eqb q.context r.context) (same_formula q.belief r.belief) e in
    let a : q.context ≡ r.context = grind (arith, nat_tests) in
    let b : q.belief ≡ r.belief = same_formula-is q.belief r.belief parts.1 in
    ap (λ c. read_at c q.belief) a ∙ ap (λ f. read_at r.context f) b

pub same_read-itself : (r : Read) → same_read r r ≡ true
same_read-itself r = rw (same_formula-itself r.belief) (grind (arith, nat_tests))
