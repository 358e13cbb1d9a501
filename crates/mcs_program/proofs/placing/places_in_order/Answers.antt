use Rattle.std.proofs.Common.{◌≡◌, true}
use Rattle.mcs_system.specs.Plain.{Name}
use Rattle.mcs_system.specs.Logic.{is_in}
use Rattle.mcs_program.specs.Placing.{IsPlaceOf}
use Rattle.mcs_base.proofs.Mapped.{image_each_read}
use Rattle.mcs_base.proofs.Zipped.{zip_take_read}
use Rattle.mcs_program.proofs.placing.places_in_order.Goals as goal

pub place_of_name-requires : goal.place_of_name-requires
place_of_name-requires c =
    image_each_read (λ (n : Name). is_in n c.args.program.now.atoms.now ≡ true) (λ b. b.now) c.args.program.now.beliefs.now c.loop-belief.belief-index c.belief-item.result c.loop-belief-test.true c.belief-item.is c.args.program.now.beliefs_over

pub loop-belief-preserved : goal.loop-belief-preserved
loop-belief-preserved c =
    zip_take_read (IsPlaceOf c.args.program.now.atoms.now) (λ b. b.now) c.args.program.now.beliefs.now c.loop-belief.belief-index c.belief-item.result c.loop-belief.places.items c.push.new.self.items c.place_of_name.result
    c.loop-belief-test.true c.belief-item.is c.in_ok-push.ensures.items c.loop-belief.invariant c.place_of_name.ensures
