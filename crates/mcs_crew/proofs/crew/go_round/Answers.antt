use Rattle.mcs_crew.specs.Children.{ComesBack, IsGiven}
use Rattle.mcs_base.proofs.Placed.{zip_parts, zip_whole}
use Rattle.mcs_crew.proofs.crew.go_round.Goals as goal

pub loop-init : goal.loop-init
loop-init g c = λ was given first. first

pub look_round-look-requires : goal.look_round-look-requires
look_round-look-requires g c =
    let work = c.requires in
    let parts = zip_parts ComesBack (IsGiven c.args.draw.now.word) work.loads c.args.children.now work.given in
    (c.type_bounds.send-O, (c.type_bounds.sync-G, (c.type_bounds.sync-R, record { loads = work.loads; given = zip_whole ComesBack (IsGiven c.args.draw.now.word) work.loads c.loop.children parts.0 (c.loop.invariant work.loads parts.0 parts.1) })))

pub loop-preserved : goal.loop-preserved
loop-preserved g c = λ was given first. c.look_round-look.ensures was given (c.loop.invariant was given first)
