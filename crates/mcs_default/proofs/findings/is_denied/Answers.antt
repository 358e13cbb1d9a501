use Rattle.std.proofs.Common.{sym, ◌∙◌}
use Rattle.mcs_system.specs.Seen.{formula_of}
use Rattle.mcs_default.proofs.SearchLemmas.{upper_refutes}
use Rattle.mcs_default.proofs.findings.is_denied.Goals as goal

pub returns-then-not-holds_at : goal.returns-then-not-holds_at
returns-then-not-holds_at c items all _ =
    upper_refutes items c.args.atoms.now c.args.upper.now c.loop-found.found-index c.found-item.result c.args.set (formula_of c.args.formula.now) c.loop-found-test.true c.found-item.is
    (sym c.holds_at.ensures ∙ c.if-not-holds_at.true) (c.within.ensures.0 c.if-within.true) all
