use Rattle.std.proofs.Common.{ℕ, arith, sym, subst}
use Rattle.mcs_system.specs.Plain.{Atom}
use Rattle.mcs_cnf.proofs.NumberLemmas.{atom_positive, atom_within}
use Rattle.mcs_evidence.specs.Added.{AddsOccurrence}
use Rattle.mcs_evidence.proofs.PushingLemmas.{occ_atom}
use Rattle.mcs_evidence.proofs.pushing.atom_of.Goals as goal

pub returns : goal.returns
returns c =
    let names = c.args.atoms.now in
    let name = c.args.name.now in
    let within = atom_within names name c.requires.over in
    subst (λ (n : ℕ). AddsOccurrence names (Atom name) c.args.cnf.now c.args.cnf.now n) (sym c.atom_number.ensures) (record {
      number = (atom_positive names name, omega (arith, within, c.requires.room));
      grows = omega arith;
      occurs = occ_atom names name c.args.cnf.now;
    })
