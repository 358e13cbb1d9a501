use Rattle.std.proofs.Common.{◌∙◌, subst}
use Rattle.mcs_base.proofs.Each.{all_push}
use Rattle.mcs_system.specs.Plain.{System}
use Rattle.mcs_system.specs.Repairs.{IsDiagnosis}
use Rattle.mcs_states.proofs.CallLemmas.{evaluates_then, asks_cut}
use Rattle.mcs_diagnosis.specs.Diagnoses.{ShowsFirstState}
use Rattle.mcs_diagnosis.proofs.FoundLemmas.{known, size_known, pairs-more, all-found}
use Rattle.mcs_diagnosis.proofs.found.diagnoses_of.Goals as goal

pub show-requires-clause-diagnosis : goal.show-requires-clause-diagnosis
show-requires-clause-diagnosis g c = subst (λ (m : System). IsDiagnosis m c.new.result) c.requires.same
    (known _ c.args.level c.in_ok-pairs.pairs.items c.deref-marks-items.result.now c.loop-marks.marks-index c.marks-item.result c.new.result c.deref-marks-items.ensures.value c.in_ok-pairs.ensures.found c.loop-marks-test.true c.marks-item.is c.new.ensures).one

-- the marks are of the level
pub returns-in_err-shown-clause-call : goal.returns-in_err-shown-clause-call
returns-in_err-shown-clause-call g c =
    let exact = size_known _ c.args.level c.in_ok-pairs.pairs.items c.deref-marks-items.result.now c.loop-marks.marks-index c.marks-item.result c.new.result c.deref-marks-items.ensures.value c.in_ok-pairs.ensures.found c.loop-marks-test.true c.marks-item.is c.new.ensures in
    asks_cut c.args.level _ _ _ _ c.from_residual-in_err-shown.ensures.1 (evaluates_then c.args.level _ _ _ _ _ _ exact c.loop-marks.invariant.call c.in_err-shown.ensures.call)

pub loop-marks-preserved : goal.loop-marks-preserved
loop-marks-preserved g c =
    let exact = size_known _ c.args.level c.in_ok-pairs.pairs.items c.deref-marks-items.result.now c.loop-marks.marks-index c.marks-item.result c.new.result c.deref-marks-items.ensures.value c.in_ok-pairs.ensures.found c.loop-marks-test.true c.marks-item.is c.new.ensures in
    let both = evaluates_then c.args.level _ _ _ _ _ _ exact c.loop-marks.invariant.call c.in_ok-shown.ensures.call in record {
      pairs = rw c.in_ok-push.ensures.items (pairs-more c.loop-marks.found.items c.deref-marks-items.result.now c.loop-marks.marks-index c.marks-item.result _ c.loop-marks-test.true c.marks-item.is (c.in_ok-shown.ensures.pair ∙ c.new.ensures) c.loop-marks.invariant.pairs);
      shown = rw c.in_ok-push.ensures.items (all_push (ShowsFirstState c.args.system.now) _ _ c.loop-marks.invariant.shown c.in_ok-shown.ensures.shown);
      call = record { done = both.done; halt = tt; rest = both.rest };
    }

pub returns-clause-found : goal.returns-clause-found
returns-clause-found g c = all-found c.args.system.now _ c.args.level c.loop-marks.found.items c.in_ok-pairs.pairs.items c.deref-marks-items.result.now c.loop-marks.marks-index c.requires.same c.deref-marks-items.ensures.value c.in_ok-pairs.ensures.found c.loop-marks-test.false c.loop-marks.invariant.pairs c.loop-marks.invariant.shown
