use Rattle.std.proofs.Common.{◌≡◌, Some, slice_get, sym, ap, ◌∙◌}
use Rattle.mcs_system.specs.Seen.{read_of}
use Rattle.mcs_system.specs.Systems.{variables}
use Rattle.mcs_system.proofs.SeenLemmas.{slice_get-map}
use Rattle.mcs_system.proofs.VariableLemmas.{variable_in_range}
use Rattle.mcs_proof_reader.proofs.TextLemmas.{variables_told}
use Rattle.mcs_proof_reader.proofs.texts.variable_texts.Goals as goal

pub push_read-requires : goal.push_read-requires
push_read-requires c =
    let k = c.loop-read.read-index in
    let is : slice_get (variables c.args.system.now) k ≡ Some (read_of c.read-item.result) =
    ap (λ rs. slice_get rs k) (sym c.requires) ∙ (slice_get-map read_of c.args.reads.now k c.read-item.result c.loop-read-test.true ∙ ap (λ r. Some (read_of r)) (sym c.read-item.is)) in
    variable_in_range c.args.system.now k (read_of c.read-item.result) is

pub returns : goal.returns
returns c = variables_told c.args.system.now c.args.reads.now c.loop-read.read-index c.loop-read.texts.items c.loop-read-test.false c.loop-read.invariant c.requires
