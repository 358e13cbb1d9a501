use Rattle.std.proofs.Common.{◌≡◌, ◌++◌, arith}
use Rattle.std.proofs.lemmas.Grind.{common_steps}
use Rattle.std.proofs.lemmas.Result.{on_ok_weaker}
use Rattle.mcs_system.specs.Logic.{atoms}
use Rattle.mcs_system.specs.Seen.{formula_of}
use Rattle.mcs_script.proofs.FoundLemmas.{finds_then}
use Rattle.mcs_script.proofs.found.+find_atoms.Goals as goal

pub returns-in_ok-find_atoms-in-And : goal.returns-in_ok-find_atoms-in-And
returns-in_ok-find_atoms-in-And t c =
    let whole : atoms (formula_of c.args.formula.now) ≡ atoms (formula_of c.in-And.g.value) ++ atoms (formula_of c.in-And.h.value) = grind (arith, common_steps) in
    on_ok_weaker c.find_atoms-in-And-2.result (λ more. finds_then _ _ _ _ _ _ whole (rw c.deref-in-And.ensures at c.in_ok-find_atoms-in-And.ensures) more) (rw c.deref-in-And-2.ensures at c.find_atoms-in-And-2.ensures)
