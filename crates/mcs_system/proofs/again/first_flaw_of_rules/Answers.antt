use Rattle.std.proofs.Common.{map, arith}
use Rattle.std.proofs.lemmas.Grind.{common_steps}
use Rattle.std.proofs.lemmas.Simd.{map-map}
use Rattle.mcs_base.proofs.Ranges.{any_of_map}
use Rattle.mcs_system.specs.Seen.{bridge_of, system_of}
use Rattle.mcs_system.proofs.KnownLemmas.{twins_by_rules, misfits_by_rules}
use Rattle.mcs_system.proofs.again.first_flaw_of_rules.Goals as goal

pub returns-then-branch : goal.returns-then-branch
returns-then-branch c =
    let twins = twins_by_rules (system_of c.args.contexts.now c.requires.others) c.requires.valid (map bridge_of c.args.bridges.now) in
    grind (arith, common_steps, map-map)

pub returns-then-any_rule_misfit : goal.returns-then-any_rule_misfit
returns-then-any_rule_misfit c =
    let twins = twins_by_rules (system_of c.args.contexts.now c.requires.others) c.requires.valid (map bridge_of c.args.bridges.now) in
    let misfits = misfits_by_rules (system_of c.args.contexts.now c.requires.others) c.requires.valid (map bridge_of c.args.bridges.now) in
    grind (arith, common_steps, map-map, any_of_map)

pub returns-else-any_rule_misfit : goal.returns-else-any_rule_misfit
returns-else-any_rule_misfit c =
    let twins = twins_by_rules (system_of c.args.contexts.now c.requires.others) c.requires.valid (map bridge_of c.args.bridges.now) in
    let misfits = misfits_by_rules (system_of c.args.contexts.now c.requires.others) c.requires.valid (map bridge_of c.args.bridges.now) in
    grind (arith, common_steps, map-map, any_of_map)
