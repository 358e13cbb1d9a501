use Rattle.std.proofs.Common.{[], ◌∷◌, IfSome, sym, subst, arith}
use Rattle.std.specs.Arc.{arc_value}
use Rattle.mcs_ports.specs.Causes.{Rose}
use Rattle.mcs_system.specs.Plain.{System}
use Rattle.mcs_check.specs.Checked.{finding_in, HoldsAnswers}
use Rattle.mcs_check.specs.Findings.{IsReportFinding, RulesOut}
use Rattle.mcs_listing.specs.Jobs.{told_all, OfOneFile}
use Rattle.mcs_listing.specs.Texts.{IsTextOf}
use Rattle.mcs_listing.specs.declared.ending.Stop.TheVariants as stops
use Rattle.mcs_top.specs.Examining.{StopsExamining}
use Rattle.mcs_top.proofs.CheckingLemmas.{both_examined, report_stops, stop_of, text_stops}
use Rattle.mcs_top.proofs.examining.examine.Goals as goal

-- ---- the file of the system
pub returns-in_err-read-clause-stop : goal.returns-in_err-read-clause-stop
returns-in_err-read-clause-stop g c =
    let held = g.H.Shelf.held c.args.shelf.now in
    let rose = Rose (g.H.Shelf.faults c.args.shelf.now) (g.H.Shelf.faults c.system_in.new.shelf) in
    let failed = Rose (g.H.Shelf.failures c.args.shelf.now) (g.H.Shelf.failures c.system_in.new.shelf) in
    stop_of (λ stop. StopsExamining stop rose failed (told_all held (c.args.file.now ∷ c.args.report.now ∷ []))) c.in_err-read.field-0.0 _ c.from_residual.ensures.1
    (text_stops held c.args.file.now c.args.report.now rose failed c.in_err-read.field-0.0 c.in_err-read.ensures.stop)

pub returns-in_err-system-clause-stop : goal.returns-in_err-system-clause-stop
returns-in_err-system-clause-stop g c = stop_of (λ stop. StopsExamining stop _ _ _) stops.Memory _ c.from_residual-in_err-system.ensures.1 tt

-- ---- the file of the report
pub returns-in_err-bytes-clause-stop : goal.returns-in_err-bytes-clause-stop
returns-in_err-bytes-clause-stop g c =
    let held = g.H.Shelf.held c.args.shelf.now in
    let rose = Rose (g.H.Shelf.faults c.args.shelf.now) (g.H.Shelf.faults c.report_in.new.shelf) in
    let failed = Rose (g.H.Shelf.failures c.args.shelf.now) (g.H.Shelf.failures c.report_in.new.shelf) in
    let more = Rose (g.H.Shelf.faults c.system_in.new.shelf) (g.H.Shelf.faults c.report_in.new.shelf) in
    let broken = Rose (g.H.Shelf.failures c.system_in.new.shelf) (g.H.Shelf.failures c.report_in.new.shelf) in
    stop_of (λ stop. StopsExamining stop rose failed (told_all held (c.args.file.now ∷ c.args.report.now ∷ []))) c.in_err-bytes.field-0.0 _ c.from_residual-in_err-bytes.ensures.1
    (report_stops held c.args.file.now c.args.report.now c.in_ok-read.read c.in_ok-read.ensures.system rose failed more broken
    (λ r. omega (arith, c.system_in.ensures.later, r)) (λ r. omega (arith, c.system_in.ensures.failures_later, r)) c.in_err-bytes.field-0.0 (rw c.system_in.ensures.held at c.in_err-bytes.ensures.stop))

-- ---- what was found
pub returns-clause-found : goal.returns-clause-found
returns-clause-found g c =
    let held = g.H.Shelf.held c.args.shelf.now in
    let found = finding_in c.in_ok-checked.checked in
    let bytes = c.in_ok-bytes.bytes.items in
    let read = subst (λ (m : System). IfSome (told_all held (c.args.file.now ∷ [])) (OfOneFile (IsTextOf m))) (sym c.in_ok-system.ensures) c.in_ok-read.ensures.system in
    both_examined held c.args.file.now c.args.report.now (arc_value c.in_ok-system.system) read bytes found c.in_ok-bytes.ensures.few (rw c.system_in.ensures.held at c.in_ok-bytes.ensures.bytes)
    (subst (λ (m : System). IsReportFinding m bytes found) c.in_ok-clone.ensures.cases (rw c.deref.ensures.value at c.in_ok-checked.ensures.shows.found))
    (subst (λ (m : System). RulesOut m bytes found) c.in_ok-clone.ensures.cases (rw c.deref.ensures.value at c.in_ok-checked.ensures.only))

pub returns-clause-holds : goal.returns-clause-holds
returns-clause-holds g c = subst (λ (m : System). HoldsAnswers m c.in_ok-checked.checked) c.in_ok-clone.ensures.cases c.in_ok-checked.ensures.shows.holds
