use Rattle.std.proofs.Common.{refl}
use Rattle.mcs_check.specs.Findings.{finding_line}
use Rattle.mcs_check.specs.declared.finding.Finding.TheVariants.{Fails}
use Rattle.mcs_top.proofs.CheckingLemmas.{writes_err}
use Rattle.mcs_top.proofs.reported.print_by.Goals as goal

pub returns-in_err-print_finding-in-Fails-clause-prints : goal.returns-in_err-print_finding-in-Fails-clause-prints
returns-in_err-print_finding-in-Fails-clause-prints g c = (
  finding_line (Fails c.in-Fails.line c.in-Fails.reason),
  rw c.in-Fails.is refl,
  writes_err (finding_line (Fails c.in-Fails.line c.in-Fails.reason)) (g.K.Sink.device c.args.sink.now) (g.K.Sink.device c.print_finding.new.sink) c.in_err-print_finding-in-Fails.field-0.0 _ c.from_residual-in_err-print_finding-in-Fails.ensures.1 c.in_err-print_finding-in-Fails.ensures,
)
