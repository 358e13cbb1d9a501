use Rattle.std.proofs.Common.{◌<◌, [], false, arith}
use Rattle.mcs_base.proofs.NumberCases.{cond_at_zero, cond_above_zero}
use Rattle.mcs_report.specs.Listing.{verdict_line}
use Rattle.mcs_text.proofs.WriteLaws.{writes_nothing}
use Rattle.mcs_work.proofs.cheapest.print_verdict_above.Goals as goal

pub returns-then-level-eq0 : goal.returns-then-level-eq0
returns-then-level-eq0 g c = rw (cond_at_zero c.args.level [] (verdict_line false) c.if-level-eq0.true) (writes_nothing _ _)

pub returns : goal.returns
returns g c = let some : 0 < c.args.level = (let other = c.if-level-eq0.false in omega (arith, other)) in rw (cond_above_zero c.args.level [] (verdict_line false) some) c.print_line.ensures
