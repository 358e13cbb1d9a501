use Rattle.std.proofs.Common.{map, refl, sym, ◌∙◌}
use Rattle.mcs_system.specs.Seen.{bridge_of, system_of}
use Rattle.mcs_system.proofs.KnownLemmas.{defaults_kept, items_kept, sizes_by_rules}
use Rattle.mcs_system.proofs.again.last_limit_of_rules.Goals as goal

pub returns-then-has_heavy_rule : goal.returns-then-has_heavy_rule
returns-then-has_heavy_rule c =
    let m = system_of c.args.contexts.now c.requires.others in
    let bs = map bridge_of c.args.bridges.now in
    let defaults = defaults_kept m c.requires.valid bs in
    let items = items_kept m c.requires.valid bs in
    let heavy = sym (c.has_heavy_rule.ensures c.args.contexts.now) ∙ c.if-has_heavy_rule.true in
    rw (defaults, items, heavy) refl

pub returns-then-any_large : goal.returns-then-any_large
returns-then-any_large c =
    let m = system_of c.args.contexts.now c.requires.others in
    let bs = map bridge_of c.args.bridges.now in
    let defaults = defaults_kept m c.requires.valid bs in
    let items = items_kept m c.requires.valid bs in
    let heavy = sym (c.has_heavy_rule.ensures c.args.contexts.now) ∙ c.if-has_heavy_rule.false in
    let large = sizes_by_rules m c.requires.valid bs ∙ sym c.any_large.ensures ∙ c.if-any_large.true in
    rw (defaults, items, heavy, large) refl

pub returns-else-any_large : goal.returns-else-any_large
returns-else-any_large c =
    let m = system_of c.args.contexts.now c.requires.others in
    let bs = map bridge_of c.args.bridges.now in
    let defaults = defaults_kept m c.requires.valid bs in
    let items = items_kept m c.requires.valid bs in
    let heavy = sym (c.has_heavy_rule.ensures c.args.contexts.now) ∙ c.if-has_heavy_rule.false in
    let large = sizes_by_rules m c.requires.valid bs ∙ sym c.any_large.ensures ∙ c.if-any_large.false in
    rw (defaults, items, heavy, large) refl
