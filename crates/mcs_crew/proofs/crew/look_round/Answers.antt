use Rattle.std.proofs.Common.{get_or, arith}
use Rattle.std.proofs.lemmas.Option.{slice_get-get_or}
use Rattle.mcs_base.proofs.Each.{all_get}
use Rattle.mcs_crew.specs.Children.{ComesBack, IsGiven}
use Rattle.mcs_base.proofs.Placed.{zip_back, zip_parts, zip_set}
use Rattle.mcs_crew.proofs.crew.look_round.Goals as goal

pub look_at-look-requires : goal.look_at-look-requires
look_at-look-requires g c =
    let work = c.requires in
    let parts = zip_parts ComesBack (IsGiven c.args.draw.now.word) work.loads c.args.children.now work.given in
    let now = c.loop-child.invariant work.loads parts.0 parts.1 in
    let k = c.loop-child.child-index in
    let child = get_or c.loop-child.children k c.child-item.result in
    let at = slice_get-get_or c.loop-child.children k c.child-item.result (let t = c.loop-child-test.true in let l = c.loop-child.auto.children in omega (arith, t, l)) in
    let (was, there, came) = zip_back ComesBack work.loads c.loop-child.children now k child at in
    (c.type_bounds.send-O, (c.type_bounds.sync-G, (c.type_bounds.sync-R, (was, all_get (IsGiven c.args.draw.now.word) work.loads k was parts.0 there, came))))

pub loop-child-preserved : goal.loop-child-preserved
loop-child-preserved g c = λ was given first.
    let now = c.loop-child.invariant was given first in
    let k = c.loop-child.child-index in
    let child = get_or c.loop-child.children k c.child-item.result in
    let at = slice_get-get_or c.loop-child.children k c.child-item.result (let t = c.loop-child-test.true in let l = c.loop-child.auto.children in omega (arith, t, l)) in
    let (load, there, came) = zip_back ComesBack was c.loop-child.children now k child at in
    zip_set ComesBack was c.loop-child.children now k load c.look_at-look.new.child there (c.look_at-look.ensures load (all_get (IsGiven c.args.draw.now.word) was k load given there) came)
