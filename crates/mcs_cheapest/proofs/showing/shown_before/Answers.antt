use Rattle.std.proofs.Common.{◌≡◌, Option, IfSome, length, sym, subst}
use Rattle.std.proofs.lemmas.Bool.{ltb-true}
use Rattle.mcs_base.specs.Listings.{IsAmong}
use Rattle.mcs_diagnosis.specs.declared.diagnosis.Diagnosis.{Diagnosis}
use Rattle.mcs_cheapest.proofs.ShowingLemmas.{found_there}
use Rattle.mcs_cheapest.proofs.showing.shown_before.Goals as goal

pub returns : goal.returns
returns c =
    let within = ltb-true c.in_ok-place.place (length c.args.before.now) (sym c.in_ok-shown.ensures.lookup.0) in
    subst (λ (o : Option Diagnosis). IfSome o (λ shown. IsAmong shown c.args.before.now × (shown.pair ≡ c.args.pair))) (sym c.then_some.ensures) (found_there c.args.before.now c.in_ok-place.place c.in_ok-shown.field-0.now c.args.pair c.eq.result within c.in_ok-shown.ensures.lookup.1 c.eq.ensures)
