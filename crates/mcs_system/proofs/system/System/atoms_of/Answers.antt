use Rattle.std.proofs.Common.{length, ap, arith}
use Rattle.mcs_system.specs.Parts.{ContextPart}
use Rattle.mcs_system.proofs.ValidLemmas.{few_atoms}
use Rattle.mcs_system.proofs.system.System.atoms_of.Goals as goal

pub returns-clause-few : goal.returns-clause-few
returns-clause-few c = omega (
  arith,
  ap length c.deref.ensures.value,
  ap (λ (p : ContextPart). length p.atoms) c.parts_of.ensures.part,
  few_atoms c.args.self.now c.parts_of.ensures.valid c.args.context c.requires,
)
