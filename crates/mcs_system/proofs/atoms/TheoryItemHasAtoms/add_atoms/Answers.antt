use Rattle.std.proofs.Common.{refl, ap}
use Rattle.mcs_system.specs.Atoms.{item_atoms}
use Rattle.mcs_system.specs.Seen.{item_of}
use Rattle.mcs_system.proofs.GatherLemmas.{gathers_then, gathers_cut}
use Rattle.mcs_system.proofs.atoms.TheoryItemHasAtoms.add_atoms.Goals as goal

pub returns-in_err-add_atoms-in-Rule : goal.returns-in_err-add_atoms-in-Rule
returns-in_err-add_atoms-in-Rule c = gathers_cut _ _ _ _ _ _ _ _ _ (ap (λ i. item_atoms (item_of i)) c.in-Rule.is) c.from_residual.ensures.1 c.in_err-add_atoms-in-Rule.ensures

pub returns-in_err-add_each-in-Rule : goal.returns-in_err-add_each-in-Rule
returns-in_err-add_each-in-Rule c = gathers_then _ _ _ _ _ _ _ _ _ _ (ap (λ i. item_atoms (item_of i)) c.in-Rule.is) c.in_ok-add_atoms-in-Rule.ensures
    (gathers_cut _ _ _ _ _ _ _ _ _ refl c.from_residual-in_err-add_each-in-Rule.ensures.1 (rw c.deref.ensures.value at c.in_err-add_each-in-Rule.ensures))

pub returns-in_ok-add_each-in-Rule : goal.returns-in_ok-add_each-in-Rule
returns-in_ok-add_each-in-Rule c = gathers_then _ _ _ _ _ _ _ _ _ _ (ap (λ i. item_atoms (item_of i)) c.in-Rule.is) c.in_ok-add_atoms-in-Rule.ensures
    (gathers_then _ _ _ _ _ _ _ _ _ _ refl (rw c.deref.ensures.value at c.in_ok-add_each-in-Rule.ensures) c.add_atoms-in-Rule-2.ensures)
