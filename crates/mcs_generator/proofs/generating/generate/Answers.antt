use Rattle.std.proofs.Common.{◌∙◌}
use Rattle.mcs_generator.proofs.FaultLemmas.{generated_parts, valid_parts}
use Rattle.mcs_generator.proofs.generating.generate.Goals as goal

pub of_valid-requires : goal.of_valid-requires
of_valid-requires c = valid_parts c.args.number c.in_ok-contexts.contexts.items c.in_ok-bridges.bridges.items c.in_ok-contexts.ensures c.in_ok-bridges.ensures
