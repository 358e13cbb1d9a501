use Rattle.std.proofs.Common.{[], ◌∷◌, map, arith}
use Rattle.mcs_ports.specs.Causes.{Rose}
use Rattle.mcs_script.specs.Seen.{edit_of}
use Rattle.mcs_listing.specs.Jobs.{told_all}
use Rattle.mcs_editing.proofs.ScriptLemmas.{scripts_can_be_listed}
use Rattle.mcs_top.specs.Scripts.{StopsScript}
use Rattle.mcs_top.proofs.CheckingLemmas.{stop_of}
use Rattle.mcs_top.proofs.SessionLemmas.{both_read, script_stops, text_stops}
use Rattle.mcs_top.proofs.session.system_and_edits.Goals as goal

-- ---- the file of the system
pub returns-in_err-system-clause-stop : goal.returns-in_err-system-clause-stop
returns-in_err-system-clause-stop g c =
    let held = g.H.Shelf.held c.args.shelf.now in
    let rose = Rose (g.H.Shelf.faults c.args.shelf.now) (g.H.Shelf.faults c.system_in.new.shelf) in
    let failed = Rose (g.H.Shelf.failures c.args.shelf.now) (g.H.Shelf.failures c.system_in.new.shelf) in
    stop_of (λ stop. StopsScript stop rose failed (told_all held (c.args.file.now ∷ c.args.script.now ∷ []))) c.in_err-system.field-0.0 _ c.from_residual.ensures.1
    (text_stops held c.args.file.now c.args.script.now rose failed c.in_err-system.field-0.0 c.in_err-system.ensures.stop)

-- ---- the file of the script
pub returns-in_err-edits-clause-stop : goal.returns-in_err-edits-clause-stop
returns-in_err-edits-clause-stop g c =
    let held = g.H.Shelf.held c.args.shelf.now in
    let rose = Rose (g.H.Shelf.faults c.args.shelf.now) (g.H.Shelf.faults c.script_in.new.shelf) in
    let failed = Rose (g.H.Shelf.failures c.args.shelf.now) (g.H.Shelf.failures c.script_in.new.shelf) in
    let more = Rose (g.H.Shelf.faults c.system_in.new.shelf) (g.H.Shelf.faults c.script_in.new.shelf) in
    let broken = Rose (g.H.Shelf.failures c.system_in.new.shelf) (g.H.Shelf.failures c.script_in.new.shelf) in
    stop_of (λ stop. StopsScript stop rose failed (told_all held (c.args.file.now ∷ c.args.script.now ∷ []))) c.in_err-edits.field-0.0 _ c.from_residual-in_err-edits.ensures.1
    (script_stops held c.args.file.now c.args.script.now c.in_ok-system.system c.in_ok-system.ensures.system rose failed more broken
    (λ r. omega (arith, c.system_in.ensures.later, r)) (λ r. omega (arith, c.system_in.ensures.failures_later, r)) c.in_err-edits.field-0.0 (rw c.system_in.ensures.held at c.in_err-edits.ensures.stop))

-- ---- both
pub returns-clause-read : goal.returns-clause-read
returns-clause-read g c = both_read (g.H.Shelf.held c.args.shelf.now) c.args.file.now c.args.script.now c.in_ok-system.system c.in_ok-system.ensures.system (map edit_of c.in_ok-edits.edits.items) (rw c.system_in.ensures.held at c.in_ok-edits.ensures.script)

pub returns-clause-allowed : goal.returns-clause-allowed
returns-clause-allowed g c = let there = c.in_ok-edits.ensures.script in scripts_can_be_listed c.in_ok-system.system there.bytes (map edit_of c.in_ok-edits.edits.items) there.script.spelled there.script.fits
