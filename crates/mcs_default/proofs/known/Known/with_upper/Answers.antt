use Rattle.std.proofs.Common.{ℕ, ap, ◌∙◌}
use Rattle.mcs_sets.specs.Sets.{union}
use Rattle.mcs_default.proofs.KnownLemmas.{known_upper}
use Rattle.mcs_default.proofs.known.Known.with_upper.Goals as goal

pub returns-clause-right : goal.returns-clause-right
returns-clause-right c names items before shown =
    known_upper items c.args.self before names c.args.found.now c.numbered.result c.union.result c.union-2.result (c.within.ensures.0 c.if-not-within.false)
    (c.union.ensures ∙ ap (λ (s : ℕ). union c.args.self.unsupported s) c.minus-others.ensures) c.union-2.ensures shown
