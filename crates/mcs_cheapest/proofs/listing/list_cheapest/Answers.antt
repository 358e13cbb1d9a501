use Rattle.std.proofs.Common.{◌∙◌, sym, subst}
use Rattle.std.proofs.lemmas.List.{take_all}
use Rattle.mcs_sets.specs.Sets.{size}
use Rattle.mcs_base.proofs.Each.{all_push}
use Rattle.mcs_system.specs.Plain.{System}
use Rattle.mcs_states.proofs.Causes.{rest_kept}
use Rattle.mcs_diagnosis.specs.Diagnoses.{ShowsFirstState}
use Rattle.mcs_cheapest.proofs.FoundLemmas.{cost_told, done_still, has_few, has_stopped, is_diagnosis, read_among, search_told, showing_broke_off, shown_more}
use Rattle.mcs_cheapest.proofs.SearchLemmas.{found_pairs, searches_cut, searches_memory}
use Rattle.mcs_cheapest.proofs.listing.list_cheapest.Goals as goal

pub cheapest_pairs-requires : goal.cheapest_pairs-requires
cheapest_pairs-requires g c = found_pairs _ _ c.args.system.now _ c.in_ok-search.search.pairs.items c.in_ok-search.search.least c.requires.can.same c.in_ok-search.ensures.found.searching

pub show-requires : goal.show-requires
show-requires g c =
    let among = read_among c.in_ok-pairs.pairs.items c.deref-marks-items.result.now c.loop-marks.marks-index c.marks-item.result c.new.result c.deref-marks-items.ensures.value c.loop-marks-test.true c.marks-item.is c.new.ensures in
    let stopped = has_stopped _ _ c.args.system.now c.requires.can.same _ c.in_ok-search.search.pairs.items c.in_ok-search.search.least c.in_ok-search.ensures.found c.in_ok-pairs.pairs.items c.in_ok-pairs.ensures in
    record { going = c.loop-marks.invariant.settled.going; diagnosis = is_diagnosis _ _ c.in_ok-pairs.pairs.items stopped c.new.result among _ (sym c.loop-marks.invariant.rest.system) }

pub returns-in_err-shown : goal.returns-in_err-shown
returns-in_err-shown g c =
    let among = read_among c.in_ok-pairs.pairs.items c.deref-marks-items.result.now c.loop-marks.marks-index c.marks-item.result c.new.result c.deref-marks-items.ensures.value c.loop-marks-test.true c.marks-item.is c.new.ensures in
    let stopped = has_stopped _ _ c.args.system.now c.requires.can.same _ c.in_ok-search.search.pairs.items c.in_ok-search.search.least c.in_ok-search.ensures.found c.in_ok-pairs.pairs.items c.in_ok-pairs.ensures in
    searches_cut _ _ _ _ _ c.from_residual-in_err-shown.ensures.1
    (showing_broke_off _ _ c.in_ok-pairs.pairs.items stopped c.new.result among _ _ _ c.loop-marks.invariant.rest c.in_err-shown.ensures.call.halt)
    (rest_kept _ _ _ c.loop-marks.invariant.rest c.in_err-shown.ensures.call.rest)

pub returns-in_err-push : goal.returns-in_err-push
returns-in_err-push g c = searches_memory _ _ _ _ c.from_residual-in_err-push.ensures.1 (rest_kept _ _ _ c.loop-marks.invariant.rest c.in_ok-shown.ensures.call.rest)

pub loop-marks-preserved : goal.loop-marks-preserved
loop-marks-preserved g c =
    let first = g.E.Evaluator.stands c.args.levels.now.evaluator in
    let among = read_among c.in_ok-pairs.pairs.items c.deref-marks-items.result.now c.loop-marks.marks-index c.marks-item.result c.new.result c.deref-marks-items.ensures.value c.loop-marks-test.true c.marks-item.is c.new.ensures in
    let stopped = has_stopped first _ c.args.system.now c.requires.can.same _ c.in_ok-search.search.pairs.items c.in_ok-search.search.least c.in_ok-search.ensures.found c.in_ok-pairs.pairs.items c.in_ok-pairs.ensures in
    let few = has_few first _ c.in_ok-pairs.pairs.items stopped c.new.result among in
    let is = stopped.level_done in
    record {
      paired = rw c.in_ok-push.ensures.items (shown_more c.loop-marks.found.items c.deref-marks-items.result.now c.loop-marks.marks-index c.marks-item.result c.in_ok-shown.shown c.loop-marks-test.true c.marks-item.is (c.in_ok-shown.ensures.shown.same ∙ c.new.ensures) c.loop-marks.invariant.paired);
      shown = rw c.in_ok-push.ensures.items (all_push (ShowsFirstState first.system) _ _ c.loop-marks.invariant.shown (subst (λ (m : System). ShowsFirstState m c.in_ok-shown.shown) c.loop-marks.invariant.rest.system c.in_ok-shown.ensures.shown.shown));
      settled = c.in_ok-shown.ensures.call.done.settled;
      done = done_still (g.E.Evaluator.stands c.loop-marks.levels.evaluator) (g.E.Evaluator.stands c.show.new.self.evaluator) _ (size c.new.result) (c.loop-marks.invariant.done ∙ is) few c.in_ok-shown.ensures.call.done.level_done ∙ sym is;
      rest = rest_kept _ _ _ c.loop-marks.invariant.rest c.in_ok-shown.ensures.call.rest;
    }

pub returns : goal.returns
returns g c =
    let first = g.E.Evaluator.stands c.args.levels.now.evaluator in
    let stopped = has_stopped first _ c.args.system.now c.requires.can.same _ c.in_ok-search.search.pairs.items c.in_ok-search.search.least c.in_ok-search.ensures.found c.in_ok-pairs.pairs.items c.in_ok-pairs.ensures in
    record {
      found = search_told first _ c.in_ok-pairs.pairs.items stopped _ _ c.loop-marks.invariant.rest c.loop-marks.invariant.settled (c.loop-marks.invariant.done ∙ stopped.level_done)
          (c.loop-marks.invariant.paired ∙ take_all c.loop-marks.marks-index c.deref-marks-items.result.now c.loop-marks-test.false ∙ c.deref-marks-items.ensures.value) c.loop-marks.invariant.shown
          (cost_told first _ c.args.system.now c.requires.can.same _ c.in_ok-search.search.pairs.items c.in_ok-search.search.least c.in_ok-search.ensures.found) (rw c.evaluator.ensures at c.asked.ensures);
      stop = tt;
      rest = c.loop-marks.invariant.rest;
    }
