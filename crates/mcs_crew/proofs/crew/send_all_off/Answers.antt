use Rattle.std.proofs.Common.{◌∙◌, sym, subst, length, refl, arith}
use Rattle.std.proofs.lemmas.Iterator.Adapters.{YieldsList-from_vec}
use Rattle.std.proofs.lemmas.Iterator.Consumers.{YieldsList-turn, YieldsList-end}
use Rattle.std.proofs.lemmas.List.{map-id}
use Rattle.std.proofs.lemmas.Option.{slice_get_read}
use Rattle.std.specs.List.{AllZip}
use Rattle.mcs_base.proofs.Each.{all_get}
use Rattle.mcs_base.proofs.Lists.{length_zip, zip_push}
use Rattle.mcs_crew.specs.Children.{ComesBack, IsGiven}
use Rattle.mcs_crew.proofs.crew.send_all_off.Goals as goal

pub send_off-requires : goal.send_off-requires
send_off-requires g c =
    let all = c.args.loads.items in
    let gives = c.into_iter-load-iterator.ensures.into_iter_gives in
    let road = YieldsList-from_vec {s = c.into_iter-load-iterator.result} all gives.0 (gives.1 ∙ c.args.loads.ok.0) in
    let turn = YieldsList-turn road c.loop-load.yielded c.loop-load.load-iterator c.loop-load.yielded_by c.next.result c.next.new.self c.in-Some.load c.in-Some.is c.next.ensures.steps in
    let given = all_get (IsGiven c.args.draw.now.word) all (length c.loop-load.yielded) c.in-Some.load c.requires.given (slice_get_read all (length all) (length c.loop-load.yielded) c.in-Some.load refl turn.0 turn.1) in
    (c.type_bounds.send-O, (c.type_bounds.sync-G, (c.type_bounds.sync-R, given)))

pub push_reserved-requires : goal.push_reserved-requires
push_reserved-requires g c =
    let all = c.args.loads.items in
    let gives = c.into_iter-load-iterator.ensures.into_iter_gives in
    let road = YieldsList-from_vec {s = c.into_iter-load-iterator.result} all gives.0 (gives.1 ∙ c.args.loads.ok.0) in
    let turn = YieldsList-turn road c.loop-load.yielded c.loop-load.load-iterator c.loop-load.yielded_by c.next.result c.next.new.self c.in-Some.load c.in-Some.is c.next.ensures.steps in
    let less = turn.0 in
    let many = length_zip ComesBack c.loop-load.yielded c.loop-load.children.items c.loop-load.invariant.back in
    let long = c.loop-load.children.ok.0 in
    let full = c.args.loads.ok.0 in
    let room = c.loop-load.invariant.room in
    omega (arith, less, many, long, full, room)

pub loop-load-preserved : goal.loop-load-preserved
loop-load-preserved g c = record {
  back = rw c.push_reserved.ensures.items (zip_push ComesBack c.loop-load.yielded c.loop-load.children.items c.in-Some.load c.send_off.result c.loop-load.invariant.back c.send_off.ensures);
  room = rw c.push_reserved.ensures.capacity c.loop-load.invariant.room;
}

pub returns : goal.returns
returns g c =
    let all = c.args.loads.items in
    let gives = c.into_iter-load-iterator.ensures.into_iter_gives in
    let road = YieldsList-from_vec {s = c.into_iter-load-iterator.result} all gives.0 (gives.1 ∙ c.args.loads.ok.0) in
    let end = YieldsList-end road c.loop-load.yielded c.loop-load.load-iterator c.loop-load.yielded_by c.next.result c.next.new.self c.in-None.is c.next.ensures.steps in
    subst (λ ls. AllZip ComesBack ls c.loop-load.children.items) (sym (map-id c.loop-load.yielded) ∙ end.0) c.loop-load.invariant.back
