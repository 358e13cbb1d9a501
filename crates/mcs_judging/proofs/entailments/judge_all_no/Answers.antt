use Rattle.std.proofs.Common.{map, refl}
use Rattle.mcs_system.specs.Seen.{formula_of}
use Rattle.mcs_evidence.specs.Defaults.{IsDenied}
use Rattle.mcs_proof_lines.specs.Walks.{no_at}
use Rattle.mcs_judging.proofs.SoFar.{none_judged, one_judged, judging_failed, all_judged}
use Rattle.mcs_judging.proofs.Readings.{both_told}
use Rattle.mcs_judging.proofs.entailments.judge_all_no.Goals as goal

pub loop-formula-init : goal.loop-formula-init
loop-formula-init c = record { model = tt; judged = none_judged (no_at c.args.named.now.texts.now) (IsDenied c.args.named.now.asked.now.atoms.now (map (λ f. formula_of f.now) c.args.premises.now)) (λ f. formula_of f.now) c.args.goals.now c.args.lines.now _ refl }

pub judge_no-requires : goal.judge_no-requires
judge_no-requires c = record { known = c.loop-formula.invariant.model }

pub loop-formula-preserved : goal.loop-formula-preserved
loop-formula-preserved c =
    let told = c.in-Ok.ensures.exact in
    record {
      model = c.in-Ok.ensures.known;
      judged = one_judged (no_at c.args.named.now.texts.now) (IsDenied c.args.named.now.asked.now.atoms.now (map (λ f. formula_of f.now) c.args.premises.now)) (λ f. formula_of f.now) c.args.goals.now c.args.lines.now c.loop-formula.lines c.loop-formula.formula-index c.loop-formula.are_right
          c.loop-formula.invariant.judged c.formula-item.result told.value c.judge_no.new.lines c.both-are_right.result c.loop-formula-test.true c.formula-item.is told.is (both_told _ _ _ _ c.both-are_right.ensures told.right);
    }

pub returns-in-Err : goal.returns-in-Err
returns-in-Err c =
    judging_failed (no_at c.args.named.now.texts.now) (IsDenied c.args.named.now.asked.now.atoms.now (map (λ f. formula_of f.now) c.args.premises.now)) (λ f. formula_of f.now) c.args.goals.now c.args.lines.now c.loop-formula.lines c.loop-formula.formula-index c.loop-formula.are_right
    c.loop-formula.invariant.judged c.in-Err.fault c.loop-formula-test.true c.in-Err.ensures.exact

pub returns : goal.returns
returns c =
    all_judged (no_at c.args.named.now.texts.now) (IsDenied c.args.named.now.asked.now.atoms.now (map (λ f. formula_of f.now) c.args.premises.now)) (λ f. formula_of f.now) c.args.goals.now c.args.lines.now c.loop-formula.lines c.loop-formula.formula-index c.loop-formula.are_right
    c.loop-formula.invariant.judged c.loop-formula-test.false
