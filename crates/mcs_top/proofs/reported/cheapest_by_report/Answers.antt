use Rattle.std.proofs.Common.{[], ◌∷◌}
use Rattle.std.specs.Arc.{arc_value}
use Rattle.mcs_ports.specs.Causes.{Rose}
use Rattle.mcs_check.specs.Checked.{finding_in}
use Rattle.mcs_listing.specs.Endings.{stop_for_unwritten}
use Rattle.mcs_listing.specs.Jobs.{told_all}
use Rattle.mcs_top.specs.Meaning.{IsToldCheapest, report_job}
use Rattle.mcs_top.proofs.DoingLemmas.{does_err, does_unused}
use Rattle.mcs_top.proofs.CheckingLemmas.{cheapest_tells, reported_cut, reported_done, stopped_cause, stopped_left}
use Rattle.mcs_top.proofs.reported.cheapest_by_report.Goals as goal

-- ---- a file is not had
pub returns-in_err-examined : goal.returns-in_err-examined
returns-in_err-examined g c =
    let job = report_job IsToldCheapest c.args.file.now c.args.report.now in
    let held = g.H.Shelf.held c.args.shelf.now in
    let rose = Rose (g.H.Shelf.faults c.args.shelf.now) (g.H.Shelf.faults c.examine.new.shelf) in
    let failed = Rose (g.H.Shelf.failures c.args.shelf.now) (g.H.Shelf.failures c.examine.new.shelf) in
    let files = told_all held (c.args.file.now ∷ c.args.report.now ∷ []) in
    let at = g.K.Sink.device c.args.sink.now in
    let stop = c.in_err-examined.field-0.0 in
    does_err job held _ _ _ _ at at stop _ c.from_residual.ensures.1 (does_unused job held _ _ _ _ at stop c.examine.ensures.later
    (stopped_cause IsToldCheapest c.args.file.now c.args.report.now rose failed (Rose at.faults at.faults) files stop c.in_err-examined.ensures.stop)
    (stopped_left IsToldCheapest c.args.file.now c.args.report.now rose failed files at.written stop c.in_err-examined.ensures.stop))

-- ---- what is printed
pub returns-in_err-outcome : goal.returns-in_err-outcome
returns-in_err-outcome g c =
    let job = report_job IsToldCheapest c.args.file.now c.args.report.now in
    let held = g.H.Shelf.held c.args.shelf.now in
    let before = g.K.Sink.device c.args.sink.now in
    let now = g.K.Sink.device c.print_by.new.sink in
    let m = arc_value c.in_ok-examined.examined.system in
    let found = finding_in c.in_ok-examined.examined.checked in
    let (text, tells, writes) = c.in_err-outcome.ensures.prints in
    let why = c.in_err-outcome.field-0.0 in
    does_err job held _ _ _ _ before now (stop_for_unwritten why) _ c.from_residual-in_err-outcome.ensures.1
    (reported_cut IsToldCheapest c.args.file.now c.args.report.now held _ _ _ _ c.examine.ensures.later before now m found text c.in_ok-examined.ensures.found (λ report. cheapest_tells m found text report tells) why writes)

pub returns : goal.returns
returns g c =
    let held = g.H.Shelf.held c.args.shelf.now in
    let before = g.K.Sink.device c.args.sink.now in
    let now = g.K.Sink.device c.print_by.new.sink in
    let m = arc_value c.in_ok-examined.examined.system in
    let found = finding_in c.in_ok-examined.examined.checked in
    let (text, tells, writes) = c.in_ok-outcome.ensures.prints in
    rw c.in_ok-outcome.ensures.outcome (reported_done IsToldCheapest c.args.file.now c.args.report.now held _ _ _ _ c.examine.ensures.later before now m found text c.in_ok-examined.ensures.found (λ report. cheapest_tells m found text report tells) _ writes)
