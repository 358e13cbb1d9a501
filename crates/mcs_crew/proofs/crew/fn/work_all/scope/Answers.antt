use Rattle.std.proofs.Common.{◌∙◌, sym, subst, arith, rules}
use Rattle.std.proofs.lemmas.List.{with_items_is}
use Rattle.std.specs.List.{AllZip}
use Rattle.mcs_base.proofs.Lists.{length_zip}
use Rattle.mcs_base.proofs.Placed.{zip_whole}
use Rattle.mcs_crew.specs.Children.{ComesBack, IsGiven}
use Rattle.mcs_crew.proofs.crew.fn.work_all.scope.Goals as goal

pub go_round-requires : goal.go_round-requires
go_round-requires g c =
    let loads = c.captures.loads.items in
    let back = subst (λ cs. AllZip ComesBack loads cs) (sym c.deref_mut.ensures.value) c.send_all_off-children.ensures in
    (search rules, (search rules, (search rules, record { loads = loads; given = zip_whole ComesBack (IsGiven c.captures.draw.now.word) loads c.deref_mut.result.now c.requires.given back })))

pub finish_all-requires : goal.finish_all-requires
finish_all-requires g c = record {
  room = (
    (let b = c.requires.back in b.0),
    (let long = length_zip ComesBack c.captures.loads.items c.send_all_off-children.result.items c.send_all_off-children.ensures in
        let full = c.send_all_off-children.result.ok.0 in let all = c.captures.loads.ok.0 in let b = c.requires.back in omega arith),
  );
}

pub returns : goal.returns
returns g c =
    let loads = c.captures.loads.items in
    let children = c.send_all_off-children.result in
    let back = subst (λ cs. AllZip ComesBack loads cs) (sym c.deref_mut.ensures.value) c.send_all_off-children.ensures in
    let kept = with_items_is children c.go_round.new.children (c.go_round.auto.children ∙ c.deref_mut.ensures.len) in
    c.finish_all.ensures loads (subst (λ cs. AllZip ComesBack loads cs) (sym kept) (c.go_round.ensures loads c.requires.given back))
