use Rattle.std.proofs.Common.{◌≡◌, ◌+◌, ◌∙◌, ◌++◌, ◌∷◌, [], true, List, sym, ap, subst, take}
use Rattle.std.proofs.lemmas.List.{take_more, take_all}
use Rattle.mcs_base.proofs.Among.{among_at}
use Rattle.mcs_base.proofs.Each.{all_among}
use Rattle.mcs_system.specs.Plain.{Name}
use Rattle.mcs_system.specs.Logic.{is_in}
use Rattle.mcs_program.specs.Placing.{ArePlaces}
use Rattle.mcs_program.proofs.PlaceLemmas.{no_places, more_places}
use Rattle.mcs_grounded.proofs.normal.places_of.Goals as goal

pub place_of-requires-clause-over : goal.place_of-requires-clause-over
place_of-requires-clause-over c =
    let names = c.args.names.now in
    let k = c.loop-name.name-index in
    let n = c.name-item.result in
    subst (λ (m : Name). is_in m c.args.atoms.now ≡ true) (sym c.name-item.is) (all_among (λ (m : Name). is_in m c.args.atoms.now ≡ true) names _ c.requires.over (among_at names k n c.loop-name-test.true))

pub loop-name-init : goal.loop-name-init
loop-name-init c = no_places c.args.atoms.now c.empty-places.result c.empty-places.ensures

pub loop-name-preserved : goal.loop-name-preserved
loop-name-preserved c =
    let names = c.args.names.now in
    let k = c.loop-name.name-index in
    let n = c.name-item.result in
    let more : take (k + 1) names ≡ take k names ++ n ∷ [] = take_more names k n c.loop-name-test.true ∙ ap (λ (m : Name). take k names ++ m ∷ []) (sym c.name-item.is) in
    subst (λ (ns : List Name). ArePlaces c.args.atoms.now ns c.with-places.result) (sym more)
    (more_places c.args.atoms.now (take k names) n c.place_of.result c.loop-name.places c.with-places.result c.place_of.ensures c.with-places.ensures c.loop-name.invariant)

pub returns : goal.returns
returns c = subst (λ (ns : List Name). ArePlaces c.args.atoms.now ns c.loop-name.places) (take_all c.loop-name.name-index c.args.names.now c.loop-name-test.false) c.loop-name.invariant
