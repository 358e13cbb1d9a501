use Rattle.std.proofs.Common.{◌≤◌, ◌∙◌, ℕ, ap, length, map, vec_capacity, subst, arith}
use Rattle.std.specs.Arc.{arc_value}
use Rattle.std.specs.List.{AllByRecursion}
use Rattle.mcs_system.specs.Plain.{System}
use Rattle.mcs_draw.specs.declared.account.Account.{Account}
use Rattle.mcs_crew.specs.Calls.{load_of}
use Rattle.mcs_crew.specs.Hubs.{AreNewLoads}
use Rattle.mcs_crew.specs.declared.load.Load.{Load}
use Rattle.mcs_crew.proofs.HubLemmas.{equipment_is}
use Rattle.mcs_crew.proofs.equipment.equipment_of.Goals as goal

pub returns-clause-equipped : goal.returns-clause-equipped
returns-clause-equipped g c =
    let m : System = arc_value c.args.plan.now in
    let groups = c.args.groups in
    let asked = c.args.asked in
    let draw = c.in_ok-draw.draw in
    let ps = c.in_ok-addresses.field-0.addresses.items in
    let is = c.in_ok-addresses.field-0.inboxes.items in
    let ls = map load_of c.in_ok-loads.loads.items in
    let first = c.in_ok-draw.ensures.seat in
    let made : ℕ → Account = λ n. record { left = n; drawn = 0; top = asked } in
    let loads = subst (λ (top : ℕ). AreNewLoads m groups groups top draw.word ps is ls) (ap (λ (a : Account). a.top) first.1)
    (subst (λ (n : System). AreNewLoads n groups groups c.in_ok-draw.seat.account.top draw.word ps is ls) c.deref.ensures c.in_ok-loads.ensures.loads) in
    equipment_is m groups asked draw ps c.loads_of.new.hub.addresses.items is c.in_ok-draw.seat c.loads_of.new.hub.seat ls c.in_ok-addresses.ensures c.in_ok-loads.ensures.hub loads
    c.in_ok-draw.ensures.draw.0
    (let room = c.in_ok-draw.ensures.draw.1 in omega (arith, room))
    (c.in_ok-loads.ensures.hub.word ∙ first.0)
    (first.1 ∙ ap made (omega arith))

pub returns-clause-room : goal.returns-clause-room
returns-clause-room g c =
    subst (λ (n : System). AllByRecursion (λ (l : Load g.row.O.Denot). length n.contexts ≤ vec_capacity l.team.nodes) c.in_ok-loads.loads.items) c.deref.ensures c.in_ok-loads.ensures.room
