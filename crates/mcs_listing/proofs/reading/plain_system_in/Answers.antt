use Rattle.std.proofs.Common.{[], ◌∷◌}
use Rattle.mcs_base.proofs.Results.{err_told}
use Rattle.mcs_ports.specs.Causes.{Rose}
use Rattle.mcs_listing.specs.Jobs.{told_all}
use Rattle.mcs_listing.specs.Texts.{IsPlainTextOf, IsRefusedPlain, StopsReading}
use Rattle.mcs_listing.specs.declared.ending.Refusal.TheVariants.{NotPlain}
use Rattle.mcs_listing.proofs.PlainLemmas.{reading_plain, told_text}
use Rattle.mcs_listing.proofs.reading.plain_system_in.Goals as goal

pub returns-in_err-system-clause-stop : goal.returns-in_err-system-clause-stop
returns-in_err-system-clause-stop g c =
    let files = told_all (g.H.Shelf.held c.args.shelf.now) (c.args.file.now ∷ []) in
    let rose = Rose (g.H.Shelf.faults c.args.shelf.now) (g.H.Shelf.faults c.system_in.new.shelf) in
    let failed = Rose (g.H.Shelf.failures c.args.shelf.now) (g.H.Shelf.failures c.system_in.new.shelf) in
    err_told (λ stop. StopsReading IsRefusedPlain stop rose failed files) _ _ c.from_residual.ensures.1 (reading_plain c.in_err-system.field-0.0 rose failed files c.in_err-system.ensures.stop)

pub returns-in-Some-clause-stop : goal.returns-in-Some-clause-stop
returns-in-Some-clause-stop g c = told_text c.in_ok-system.system (IsRefusedPlain (NotPlain c.in_ok-name.name)) (λ bytes spelled. (c.in_ok-system.system, spelled, c.in_ok-name.ensures)) (told_all (g.H.Shelf.held c.args.shelf.now) (c.args.file.now ∷ [])) c.in_ok-system.ensures.system

pub returns-clause-system : goal.returns-clause-system
returns-clause-system g c = told_text c.in_ok-system.system (IsPlainTextOf c.in_ok-system.system) (λ bytes spelled. record { text = spelled; plain = c.in_default.ensures }) (told_all (g.H.Shelf.held c.args.shelf.now) (c.args.file.now ∷ [])) c.in_ok-system.ensures.system
