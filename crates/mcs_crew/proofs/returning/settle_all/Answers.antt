use Rattle.std.proofs.Common.{◌∙◌, ℕ, [], ◌∷◌, ap, drop, length, length-append, refl, sym}
use Rattle.std.proofs.lemmas.Iterator.Adapters.{YieldsList-from_vec}
use Rattle.std.proofs.lemmas.Iterator.Consumers.{YieldsList-turn}
use Rattle.std.proofs.lemmas.Option.{slice_get_read}
use Rattle.mcs_crew.proofs.HubLemmas.{settled_more}
use Rattle.mcs_crew.proofs.returning.settle_all.Goals as goal
use Rattle.mcs_base.proofs.Lists.{next_dropped}

pub settle-requires-clause-all : goal.settle-requires-clause-all
settle-requires-clause-all g c =
    let all = c.args.addresses.items in
    let yielded = c.loop-address.yielded in
    let gives = c.into_iter-address-iterator.ensures.into_iter_gives in
    let road = YieldsList-from_vec {s = c.into_iter-address-iterator.result} all gives.0 (gives.1 ∙ c.args.addresses.ok.0) in
    let turn = YieldsList-turn road yielded c.loop-address.address-iterator c.loop-address.yielded_by c.next.result c.next.new.self c.in-Some.address c.in-Some.is c.next.ensures.steps in
    let next = slice_get_read all (length all) (length yielded) c.in-Some.address refl turn.0 turn.1 in
    let first = next_dropped (length yielded) c.args.inboxes.items c.in-Some-pop_front.inbox c.pop_front.new.self.items (sym c.loop-address.invariant.left ∙ c.in-Some-pop_front.ensures.items) in
    (c.requires.each (length yielded) c.in-Some.address c.in-Some-pop_front.inbox next first.0).1

pub loop-address-preserved : goal.loop-address-preserved
loop-address-preserved g c =
    let yielded = c.loop-address.yielded in
    let first = next_dropped (length yielded) c.args.inboxes.items c.in-Some-pop_front.inbox c.pop_front.new.self.items (sym c.loop-address.invariant.left ∙ c.in-Some-pop_front.ensures.items) in
    let told = c.in_ok-settle.ensures in record {
      left = first.1 ∙ ap (λ (n : ℕ). drop n c.args.inboxes.items) (sym (length-append yielded (c.in-Some.address ∷ [])));
      settled = rw c.in_ok-push.ensures.items
          (settled_more yielded c.args.inboxes.items c.loop-address.wires.items c.in-Some.address c.in-Some-pop_front.inbox c.in_ok-settle.field-0 c.loop-address.invariant.settled first.0 told.plan told.sent told.got);
    }
