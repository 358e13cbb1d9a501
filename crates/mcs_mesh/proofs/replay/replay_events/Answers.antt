use Rattle.std.proofs.Common.{◌+◌, ◌∙◌, take, get_or, refl, arith}
use Rattle.std.proofs.lemmas.List.{take_all, take_more}
use Rattle.mcs_node.specs.declared.event.Event.TheVariants.{Begin}
use Rattle.mcs_mesh.specs.Replays.{course, outcome_of}
use Rattle.mcs_mesh.proofs.ReplayLemmas.{all_told, new_of_round, one_counted, replay_begun, replay_more}
use Rattle.mcs_mesh.proofs.replay.replay_events.Goals as goal

pub loop-event-init : goal.loop-event-init
loop-event-init g c =
    let (m, budget, oracles, new) = c.requires.new in record {
      of_round = new_of_round m c.args.level budget oracles c.args.nodes.now new;
      replaying = λ m budget oracles new. replay_begun m c.args.level budget oracles c.args.nodes.now c.new-letters.result.items new c.new-letters.ensures.items;
      same = refl;
      few = omega arith;
    }

pub loop-event-preserved : goal.loop-event-preserved
loop-event-preserved g c =
    let k = c.loop-event.event-index in
    let events = c.args.events.now in
    let old = c.loop-event.counts in
    let now = c.with-counts.result in
    let inv = c.loop-event.invariant in
    let o = outcome_of c.in_ok-outcome.outcome in
    let (of, goes) = c.in_ok-outcome.ensures.goes inv.of_round in record {
      of_round = of;
      replaying = λ m budget oracles new. replay_more m c.args.level budget (take k events) (take (k + 1) events) (get_or events k (Begin 0)) o
          (course c.loop-event.nodes c.loop-event.letters.items c.loop-event.total) (course c.step.new.nodes c.step.new.letters.items c.step.new.total)
          old.ignored old.skipped now.ignored now.skipped (take_more events k (Begin 0) c.loop-event-test.true) c.with-counts.ensures.ignored c.with-counts.ensures.skipped (inv.replaying m budget oracles new) goes;
      same = c.step.ensures.same ∙ inv.same;
      few = let few = inv.few in let a = c.with-counts.ensures.ignored in let b = c.with-counts.ensures.skipped in omega (arith, few, a, b, one_counted o);
    }

pub returns-in_err-outcome-clause-same : goal.returns-in_err-outcome-clause-same
returns-in_err-outcome-clause-same g c = c.step.ensures.same ∙ c.loop-event.invariant.same

pub returns-clause-replayed : goal.returns-clause-replayed
returns-clause-replayed g c = λ m budget oracles new.
    let inv = c.loop-event.invariant in
    all_told m c.args.level budget c.args.events.now (take c.loop-event.event-index c.args.events.now) c.loop-event.nodes c.loop-event.letters.items c.deref.result.now c.loop-event.total c.loop-event.counts c.tell.result
    (take_all c.loop-event.event-index c.args.events.now c.loop-event-test.false) c.deref.ensures.value inv.of_round (inv.replaying m budget oracles new) c.tell.ensures

pub returns-clause-same : goal.returns-clause-same
returns-clause-same g c = c.loop-event.invariant.same
