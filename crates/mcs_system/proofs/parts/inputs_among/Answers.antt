use Rattle.std.proofs.Common.{arith, ◌∙◌, ap}
use Rattle.mcs_system.specs.Parts.{rule_part_of}
use Rattle.mcs_sets.specs.Sets.{union}
use Rattle.mcs_sets.proofs.Lattice.{none-union}
use Rattle.mcs_system.proofs.PartLemmas.{inputs_from, inputs_go_on, inputs_end, part_at}
use Rattle.mcs_system.proofs.parts.inputs_among.Goals as goal

pub loop-k-init : goal.loop-k-init
loop-k-init c vs same = ap (λ s. union s (inputs_from vs c.args.bridges.now 0 c.args.context)) c.empty-inputs.ensures ∙ none-union (inputs_from vs c.args.bridges.now 0 c.args.context)

pub loop-k-preserved : goal.loop-k-preserved
loop-k-preserved c vs same =
    let part = ap rule_part_of c.index-reads-k.is ∙ part_at vs c.args.reads.now c.args.bridges.now c.loop-k.k _ c.index-bridges-k.result same (omega arith) c.index-bridges-k.is in
    rw (c.union-inputs.ensures, c.read_into.ensures vs part)
    (inputs_go_on vs c.args.bridges.now c.loop-k.k c.index-bridges-k.result (omega arith) c.index-bridges-k.is c.args.context c.loop-k.inputs _ (c.loop-k.invariant vs same))

pub returns : goal.returns
returns c vs same = inputs_end vs c.args.bridges.now c.loop-k.k c.args.context c.loop-k.inputs _ (omega arith) (c.loop-k.invariant vs same)
