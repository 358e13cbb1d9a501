use Rattle.std.proofs.Common.{◌≡◌, ◌++◌, arith}
use Rattle.std.proofs.lemmas.Grind.{common_steps}
use Rattle.mcs_system.specs.Logic.{atoms}
use Rattle.mcs_system.specs.Seen.{formula_of}
use Rattle.mcs_system.proofs.GatherLemmas.{gathers_then, gathers_cut}
use Rattle.mcs_system.proofs.atoms.FormulaHasAtoms.+add_atoms.Goals as goal

pub returns-in_err-add_atoms-in-And : goal.returns-in_err-add_atoms-in-And
returns-in_err-add_atoms-in-And t c =
    let whole : atoms (formula_of c.args.self.now) ≡ atoms (formula_of c.in-And.g.value) ++ atoms (formula_of c.in-And.h.value) = grind (arith, common_steps) in
    gathers_cut _ _ _ _ _ _ _ _ _ whole c.from_residual.ensures.1 (rw c.deref-in-And.ensures at c.in_err-add_atoms-in-And.ensures)

pub returns-in_ok-add_atoms-in-And : goal.returns-in_ok-add_atoms-in-And
returns-in_ok-add_atoms-in-And t c =
    let whole : atoms (formula_of c.args.self.now) ≡ atoms (formula_of c.in-And.g.value) ++ atoms (formula_of c.in-And.h.value) = grind (arith, common_steps) in
    gathers_then _ _ _ _ _ _ _ _ _ _ whole (rw c.deref-in-And.ensures at c.in_ok-add_atoms-in-And.ensures) (rw c.deref-in-And-2.ensures at c.add_atoms-in-And-2.ensures)
