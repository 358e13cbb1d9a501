use Rattle.std.proofs.Common.{◌∙◌, sym, subst, arith}
use Rattle.std.proofs.lemmas.Iterator.Adapters.{YieldsList-from_vec}
use Rattle.std.proofs.lemmas.Iterator.Consumers.{YieldsList-turn, YieldsList-end}
use Rattle.std.proofs.lemmas.List.{map-id}
use Rattle.std.specs.List.{AllZip}
use Rattle.mcs_base.proofs.Lists.{length_zip, zip_push}
use Rattle.mcs_crew.specs.Children.{ComesBack, HasWorked}
use Rattle.mcs_crew.specs.declared.child.Child.{Child}
use Rattle.mcs_crew.specs.declared.load.Load.{Load}
use Rattle.mcs_base.proofs.Placed.{zip_through}
use Rattle.mcs_crew.proofs.crew.finish_all.Goals as goal

-- the load is back from the child
abbrev IsBack : {O : Type 0} → Child O → Load O → Type 0
IsBack {O} child load = (was : Load O) → ComesBack was child → HasWorked was load

pub push_reserved-requires : goal.push_reserved-requires
push_reserved-requires g c =
    let all = c.args.children.items in
    let gives = c.into_iter-child-iterator.ensures.into_iter_gives in
    let road = YieldsList-from_vec {s = c.into_iter-child-iterator.result} all gives.0 (gives.1 ∙ c.args.children.ok.0) in
    let turn = YieldsList-turn road c.loop-child.yielded c.loop-child.child-iterator c.loop-child.yielded_by c.next.result c.next.new.self c.in-Some.child c.in-Some.is c.next.ensures.steps in
    let less = turn.0 in
    let many = length_zip IsBack c.loop-child.yielded c.loop-child.back.items c.loop-child.invariant.back in
    let long = c.loop-child.back.ok.0 in
    let full = c.args.children.ok.0 in
    let room = c.loop-child.invariant.room in
    omega (arith, less, many, long, full, room)

pub loop-child-preserved : goal.loop-child-preserved
loop-child-preserved g c = record {
  back = rw c.push_reserved.ensures.items (zip_push IsBack c.loop-child.yielded c.loop-child.back.items c.in-Some.child c.finish.result c.loop-child.invariant.back c.finish.ensures);
  room = rw c.push_reserved.ensures.capacity c.loop-child.invariant.room;
}

pub returns : goal.returns
returns g c was first =
    let all = c.args.children.items in
    let gives = c.into_iter-child-iterator.ensures.into_iter_gives in
    let road = YieldsList-from_vec {s = c.into_iter-child-iterator.result} all gives.0 (gives.1 ∙ c.args.children.ok.0) in
    let end = YieldsList-end road c.loop-child.yielded c.loop-child.child-iterator c.loop-child.yielded_by c.next.result c.next.new.self c.in-None.is c.next.ensures.steps in
    let same = sym (map-id c.loop-child.yielded) ∙ end.0 in
    zip_through ComesBack HasWorked was all c.loop-child.back.items first (subst (λ cs. AllZip IsBack cs c.loop-child.back.items) same c.loop-child.invariant.back)
