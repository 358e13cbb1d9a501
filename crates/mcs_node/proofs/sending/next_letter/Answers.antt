use Rattle.std.proofs.Common.{◌≡◌, ◌∙◌, ◌+◌, ℕ, List, ap, length, refl, subst, sym, arith}
use Rattle.std.specs.Arc.{arc_value}
use Rattle.mcs_base.specs.Listings.{IsListing}
use Rattle.mcs_sets.specs.Orders.{StateBefore}
use Rattle.mcs_system.specs.Plain.{System}
use Rattle.mcs_system.specs.Levels.{MaySupply}
use Rattle.mcs_node.specs.Rounds.{Supplies}
use Rattle.mcs_node.specs.Letters.{IsTrueHalt, LetterData, Supply, Stop, shared_states}
use Rattle.mcs_node.specs.Keeping.{HandsOutLast}
use Rattle.mcs_node.proofs.SendingLemmas.{content_done, content_stopped, last_copy, last_plan, letter_of, one_fewer, other_plans, receiver_at, receiver_fits, same_letter, stop_out, supply_out}
use Rattle.mcs_node.proofs.sending.next_letter.Goals as goal

pub supply-requires-clause-fits : goal.supply-requires-clause-fits
supply-requires-clause-fits c =
    let r = c.args.round.now in
    let m = c.requires.0 in
    let may = c.requires.2 in
    let rest = c.pop.new.self.items in
    let its = last_plan arc_value m r.envelopes.items rest c.in-Some.plan c.in-Some.ensures.items may.envelopes in
    let fewer = one_fewer arc_value m r.envelopes.items rest c.in-Some.plan c.in-Some.ensures.items in
    let place = c.len.result in
    let more : place + 1 ≡ length r.envelopes.items = omega (arith, fewer, c.len.ensures, c.pop.new.self.ok.0) in
    subst (λ (n : System). Supplies n c.args.context (receiver_at c.args.receivers.now place)) (sym its) (receiver_fits m c.args.context c.args.receivers.now c.requires.1 r may place more)

pub supply-requires-clause-listing : goal.supply-requires-clause-listing
supply-requires-clause-listing c =
    let r = c.args.round.now in
    let m = c.requires.0 in
    let may = c.requires.2 in
    let rest = c.pop.new.self.items in
    let its = last_plan arc_value m r.envelopes.items rest c.in-Some.plan c.in-Some.ensures.items may.envelopes in
    let content = content_done m c.args.context c.args.receivers.now c.requires.1 r may c.in-Done.total c.in-Done.is in
    let copies = last_copy shared_states c.requires.1 r.envelopes.items r.copies.items content.0 rest c.in-Some.plan c.pop-in-Done.new.self.items c.in-Some-pop.states c.in-Some.ensures.items c.in-Some-pop.ensures.items in
    subst (λ (n : System). IsListing (MaySupply n r.level c.args.context) StateBefore (shared_states c.in-Some-pop.states)) (sym its)
    (subst (λ (xs : List ℕ). IsListing (MaySupply m r.level c.args.context) StateBefore xs) (sym copies.1) content.1)

pub stop-requires-clause-fits : goal.stop-requires-clause-fits
stop-requires-clause-fits c =
    let r = c.args.round.now in
    let m = c.requires.0 in
    let may = c.requires.2 in
    let rest = c.pop-in-Stopped.new.self.items in
    let its = last_plan arc_value m r.envelopes.items rest c.in-Some-pop-2.plan c.in-Some-pop-2.ensures.items may.envelopes in
    let fewer = one_fewer arc_value m r.envelopes.items rest c.in-Some-pop-2.plan c.in-Some-pop-2.ensures.items in
    let place = c.len-in-Stopped.result in
    let more : place + 1 ≡ length r.envelopes.items = omega (arith, fewer, c.len-in-Stopped.ensures, c.pop-in-Stopped.new.self.ok.0) in
    subst (λ (n : System). Supplies n c.args.context (receiver_at c.args.receivers.now place)) (sym its) (receiver_fits m c.args.context c.args.receivers.now c.requires.1 r may place more)

pub stop-requires-clause-halt : goal.stop-requires-clause-halt
stop-requires-clause-halt c =
    let r = c.args.round.now in
    let m = c.requires.0 in
    let may = c.requires.2 in
    let its = last_plan arc_value m r.envelopes.items c.pop-in-Stopped.new.self.items c.in-Some-pop-2.plan c.in-Some-pop-2.ensures.items may.envelopes in
    subst (λ (n : System). IsTrueHalt n r.level c.in-Stopped.halt) (sym its)
    (content_stopped m c.args.context c.args.receivers.now c.requires.1 r may c.in-Stopped.granted c.in-Stopped.halt c.in-Stopped.by_itself c.in-Stopped.is)

pub returns-in-Some-pop : goal.returns-in-Some-pop
returns-in-Some-pop c m supplies may =
    let r = c.args.round.now in
    let i = c.args.context in
    let receivers = c.args.receivers.now in
    let rest = c.pop.new.self.items in
    let plan = c.in-Some.plan in
    let left = c.in-Some.ensures.items in
    let its = last_plan arc_value m r.envelopes.items rest plan left may.envelopes in
    let fewer = one_fewer arc_value m r.envelopes.items rest plan left in
    let place : c.len.result ≡ length rest = c.len.ensures ∙ c.pop.new.self.ok.0 in
    let content = content_done m i receivers supplies r may c.in-Done.total c.in-Done.is in
    let copies = last_copy shared_states supplies r.envelopes.items r.copies.items content.0 rest plan c.pop-in-Done.new.self.items c.in-Some-pop.states left c.in-Some-pop.ensures.items in
    let s = record r { envelopes = c.pop.new.self; copies = c.pop-in-Done.new.self } in
    let is : c.supply.result ≡ letter_of m r.level i (receiver_at receivers (length rest)) (Supply supplies)
    = c.supply.ensures ∙ same_letter m (arc_value plan) r.level i (receiver_at receivers (length rest)) (receiver_at receivers c.len.result) (Supply supplies) (Supply (shared_states c.in-Some-pop.states)) its (ap (receiver_at receivers) place) (ap Supply copies.1) in
    subst (λ (l : LetterData). HandsOutLast m i receivers supplies r s l) (sym is)
    (supply_out m i receivers supplies r s may refl fewer (other_plans arc_value m r.envelopes.items rest plan left may.envelopes) c.in-Done.total c.in-Done.is copies.0 content.1)

pub returns-in-Some-pop-2 : goal.returns-in-Some-pop-2
returns-in-Some-pop-2 c m supplies may =
    let r = c.args.round.now in
    let i = c.args.context in
    let receivers = c.args.receivers.now in
    let rest = c.pop-in-Stopped.new.self.items in
    let plan = c.in-Some-pop-2.plan in
    let left = c.in-Some-pop-2.ensures.items in
    let halt = c.in-Stopped.halt in
    let its = last_plan arc_value m r.envelopes.items rest plan left may.envelopes in
    let fewer = one_fewer arc_value m r.envelopes.items rest plan left in
    let place : c.len-in-Stopped.result ≡ length rest = c.len-in-Stopped.ensures ∙ c.pop-in-Stopped.new.self.ok.0 in
    let right = content_stopped m i receivers supplies r may c.in-Stopped.granted halt c.in-Stopped.by_itself c.in-Stopped.is in
    let s = record r { envelopes = c.pop-in-Stopped.new.self } in
    let is : c.stop.result ≡ letter_of m r.level i (receiver_at receivers (length rest)) (Stop halt)
    = c.stop.ensures ∙ same_letter m (arc_value plan) r.level i (receiver_at receivers (length rest)) (receiver_at receivers c.len-in-Stopped.result) (Stop halt) (Stop halt) its (ap (receiver_at receivers) place) refl in
    subst (λ (l : LetterData). HandsOutLast m i receivers supplies r s l) (sym is)
    (stop_out m i receivers supplies r s may refl fewer (other_plans arc_value m r.envelopes.items rest plan left may.envelopes) c.in-Stopped.granted halt c.in-Stopped.by_itself c.in-Stopped.is right)
