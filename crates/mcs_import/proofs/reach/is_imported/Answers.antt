use Rattle.std.proofs.Common.{◌↔◌, ℕ, IsTrue, subst}
use Rattle.mcs_sets.specs.Sets.{Meets}
use Rattle.mcs_system.specs.Rows.{inputs_of}
use Rattle.mcs_import.proofs.ReachLemmas.{imports_by_sets}
use Rattle.mcs_import.proofs.reach.is_imported.Goals as goal

pub returns : goal.returns
returns c =
    let inputs = subst (λ (s : ℕ). IsTrue c.meets.result ↔ Meets s c.vars_of.result) c.inputs_of.ensures c.meets.ensures in
    let both = subst (λ (s : ℕ). IsTrue c.meets.result ↔ Meets (inputs_of c.args.system.now c.args.i) s) c.vars_of.ensures inputs in
    imports_by_sets c.args.system.now c.args.i c.args.j c.requires.imported c.meets.result both
