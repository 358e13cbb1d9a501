use Rattle.std.proofs.Common.{[], ◌∷◌}
use Rattle.std.specs.Arc.{arc_value}
use Rattle.mcs_ports.specs.Causes.{Rose}
use Rattle.mcs_words.specs.Commands.{check}
use Rattle.mcs_check.specs.Findings.{finding_line}
use Rattle.mcs_listing.specs.Endings.{stop_for_unwritten}
use Rattle.mcs_listing.specs.Jobs.{told_all}
use Rattle.mcs_top.specs.Meaning.{IsToldValid, meaning}
use Rattle.mcs_top.proofs.DoingLemmas.{does_err, does_unused}
use Rattle.mcs_top.proofs.CheckingLemmas.{line_tells, reported_cut, reported_done, stopped_cause, stopped_left}
use Rattle.mcs_top.proofs.checking.check.Goals as goal

-- ---- a file is not had
pub returns-in_err-examined : goal.returns-in_err-examined
returns-in_err-examined g c =
    let job = meaning (check c.args.file.now c.args.report.now) in
    let held = g.H.Shelf.held c.args.shelf.now in
    let rose = Rose (g.H.Shelf.faults c.args.shelf.now) (g.H.Shelf.faults c.examine.new.shelf) in
    let failed = Rose (g.H.Shelf.failures c.args.shelf.now) (g.H.Shelf.failures c.examine.new.shelf) in
    let files = told_all held (c.args.file.now ∷ c.args.report.now ∷ []) in
    let at = g.K.Sink.device c.args.sink.now in
    let stop = c.in_err-examined.field-0.0 in
    does_err job held _ _ _ _ at at stop _ c.from_residual.ensures.1 (does_unused job held _ _ _ _ at stop c.examine.ensures.later
    (stopped_cause IsToldValid c.args.file.now c.args.report.now rose failed (Rose at.faults at.faults) files stop c.in_err-examined.ensures.stop)
    (stopped_left IsToldValid c.args.file.now c.args.report.now rose failed files at.written stop c.in_err-examined.ensures.stop))

-- ---- the line of what was found
pub returns-in_err-print_finding : goal.returns-in_err-print_finding
returns-in_err-print_finding g c =
    let job = meaning (check c.args.file.now c.args.report.now) in
    let held = g.H.Shelf.held c.args.shelf.now in
    let before = g.K.Sink.device c.args.sink.now in
    let now = g.K.Sink.device c.print_finding.new.sink in
    let m = arc_value c.in_ok-examined.examined.system in
    let found = c.finding-finding.result in
    let why = c.in_err-print_finding.field-0.0 in
    does_err job held _ _ _ _ before now (stop_for_unwritten why) _ c.from_residual-in_err-print_finding.ensures.1
    (reported_cut IsToldValid c.args.file.now c.args.report.now held _ _ _ _ c.examine.ensures.later before now m found (finding_line found) (rw c.finding-finding.ensures c.in_ok-examined.ensures.found) (line_tells m found) why c.in_err-print_finding.ensures)

pub returns : goal.returns
returns g c =
    let held = g.H.Shelf.held c.args.shelf.now in
    let before = g.K.Sink.device c.args.sink.now in
    let now = g.K.Sink.device c.print_finding.new.sink in
    let m = arc_value c.in_ok-examined.examined.system in
    let found = c.finding-finding.result in
    rw c.outcome_of.ensures (reported_done IsToldValid c.args.file.now c.args.report.now held _ _ _ _ c.examine.ensures.later before now m found (finding_line found) (rw c.finding-finding.ensures c.in_ok-examined.ensures.found) (line_tells m found) _ c.in_ok-print_finding.ensures)
