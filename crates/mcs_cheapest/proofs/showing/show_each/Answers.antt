use Rattle.std.proofs.Common.{◌≡◌, ◌∙◌, refl, sym, subst}
use Rattle.std.proofs.lemmas.List.{take_all}
use Rattle.mcs_base.proofs.Each.{all_among, all_push}
use Rattle.mcs_states.proofs.Causes.{rest_kept}
use Rattle.mcs_diagnosis.specs.declared.diagnosis.Diagnosis.{Diagnosis}
use Rattle.mcs_diagnosis.specs.Diagnoses.{ShowsFirstState}
use Rattle.mcs_cheapest.proofs.FoundLemmas.{read_among, shown_more}
use Rattle.mcs_cheapest.proofs.SearchLemmas.{searches_cut, searches_memory}
use Rattle.mcs_cheapest.proofs.ShowingLemmas.{StaysAsking, call_breaks_off, can_still, stays_asking}
use Rattle.mcs_cheapest.proofs.showing.show_each.Goals.{in-Some, in-None+in_ok-shown-in-None}
use Rattle.mcs_cheapest.proofs.showing.show_each.Goals as goal

pub loop-marks-init : goal.loop-marks-init
loop-marks-init g c = record {
  paired = rw c.new-found.ensures.items refl;
  shown = rw c.new-found.ensures.items tt;
  can = c.requires.can;
  asking = λ first level asking few. asking;
}

pub show-requires-clause-can : goal.show-requires-clause-can
show-requires-clause-can g c = c.loop-marks.invariant.can

pub returns-in_err-shown-in-None : goal.returns-in_err-shown-in-None
returns-in_err-shown-in-None g c =
    let among = read_among c.args.pairs.now c.args.pairs.now c.loop-marks.marks-index c.marks-item.result c.new-pair.result refl c.loop-marks-test.true c.marks-item.is c.new-pair.ensures in
    λ first level asking few. searches_cut _ _ _ _ _ c.from_residual.ensures.1
    (call_breaks_off c.args.system.now c.args.pairs.now _ _ _ c.new-pair.result among c.loop-marks.invariant.asking c.in_err-shown-in-None.ensures.call.rest _ c.in_err-shown-in-None.ensures.call.halt first level asking few)
    (rest_kept _ _ _ (c.loop-marks.invariant.asking first level asking few).rest c.in_err-shown-in-None.ensures.call.rest)

pub returns-in_err-push : goal.returns-in_err-push
returns-in_err-push g c =
    let m = c.args.system.now in
    let old = g.E.Evaluator.stands c.args.evaluator.now in
    let ps = c.args.pairs.now in
    let among = read_among ps ps c.loop-marks.marks-index c.marks-item.result c.new-pair.result refl c.loop-marks-test.true c.marks-item.is c.new-pair.ensures in
    let stays : StaysAsking m ps old (g.E.Evaluator.stands c.match-shown_before.evaluator) =
    elim c.match-shown_before.branch [
      | in-Some w ↦ subst (λ e. StaysAsking m ps old (g.E.Evaluator.stands e)) (sym w.evaluator-is) c.loop-marks.invariant.asking
      | in-None+in_ok-shown-in-None w ↦ subst (λ e. StaysAsking m ps old (g.E.Evaluator.stands e)) (sym w.evaluator-is) (stays_asking m ps _ _ _ c.new-pair.result among c.loop-marks.invariant.asking w.in_ok-shown-in-None.ensures.call.rest w.in_ok-shown-in-None.ensures.call.done)
    ] in
    λ first level asking few. searches_memory _ _ _ _ c.from_residual-in_err-push.ensures.1 (stays first level asking few).rest

pub loop-marks-preserved : goal.loop-marks-preserved
loop-marks-preserved g c =
    let m = c.args.system.now in
    let old = g.E.Evaluator.stands c.args.evaluator.now in
    let ps = c.args.pairs.now in
    let among = read_among ps ps c.loop-marks.marks-index c.marks-item.result c.new-pair.result refl c.loop-marks-test.true c.marks-item.is c.new-pair.ensures in
    let one_more = λ (d : Diagnosis) (same : d.pair ≡ c.new-pair.result). shown_more c.loop-marks.found.items ps c.loop-marks.marks-index c.marks-item.result d c.loop-marks-test.true c.marks-item.is (same ∙ c.new-pair.ensures) c.loop-marks.invariant.paired in
    elim c.match-shown_before.branch [
      | in-Some w ↦ rw c.in_ok-push.ensures.items (rw w.shown-is (rw w.evaluator-is (record {
        paired = one_more w.in-Some.shown w.in-Some.ensures.1;
        shown = all_push (ShowsFirstState m) _ _ c.loop-marks.invariant.shown (all_among (ShowsFirstState m) c.args.before.now w.in-Some.shown c.requires.known w.in-Some.ensures.0);
        can = c.loop-marks.invariant.can;
        asking = c.loop-marks.invariant.asking;
      })))
      | in-None+in_ok-shown-in-None w ↦ rw c.in_ok-push.ensures.items (rw w.shown-is (rw w.evaluator-is (record {
        paired = one_more w.in_ok-shown-in-None.shown w.in_ok-shown-in-None.ensures.pair;
        shown = all_push (ShowsFirstState m) _ _ c.loop-marks.invariant.shown w.in_ok-shown-in-None.ensures.shown;
        can = can_still m ps old _ _ c.new-pair.result among c.loop-marks.invariant.asking w.in_ok-shown-in-None.ensures.call.rest w.in_ok-shown-in-None.ensures.call.done c.loop-marks.invariant.can;
        asking = stays_asking m ps old _ _ c.new-pair.result among c.loop-marks.invariant.asking w.in_ok-shown-in-None.ensures.call.rest w.in_ok-shown-in-None.ensures.call.done;
      })))
    ]

pub returns : goal.returns
returns g c = λ first level asking few. record {
  found = (
    record {
      paired = c.loop-marks.invariant.paired ∙ take_all c.loop-marks.marks-index c.args.pairs.now c.loop-marks-test.false;
      shown = c.loop-marks.invariant.shown;
    },
    c.loop-marks.invariant.asking first level asking few,
  );
  stop = tt;
  rest = (c.loop-marks.invariant.asking first level asking few).rest;
}
