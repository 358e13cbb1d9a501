use Rattle.std.proofs.Common.{◌∙◌, ap, map, refl, arith}
use Rattle.mcs_sets.specs.Sets.{has}
use Rattle.mcs_sets.proofs.SetLemmas.{has-empty}
use Rattle.mcs_base.proofs.Mapped.{image_each_read}
use Rattle.mcs_system.specs.Seen.{formula_of}
use Rattle.mcs_cnf.specs.ClauseLists.{IsOver}
use Rattle.mcs_proof_lines.specs.Walks.{entailment_at}
use Rattle.mcs_cnf.specs.Entailments.{IsAcceptedEntailment}
use Rattle.std.proofs.lemmas.Bool.{not-true, not-false}
use Rattle.mcs_judging.proofs.SoFar.{none_told, one_told, judging_failed, places_told, places_refused}
use Rattle.mcs_judging.proofs.entailments.judge_places.Goals as goal

pub loop-index-init : goal.loop-index-init
loop-index-init c = record {
  kept = refl;
  told = none_told c.args.named.now.asked.now.atoms.now (map (λ f. formula_of f.now) c.args.premises.now) (entailment_at c.args.named.now.texts.now) (λ f. formula_of f.now) c.args.named.now.asked.now.beliefs.now c.args.lines.now _ refl (λ b. ap (λ s. has s b) c.empty.ensures ∙ has-empty b) tt;
}

pub invariant_of-claim : goal.invariant_of-claim
invariant_of-claim c = record { low = omega (arith, c.loop-index-test.true, c.args.named.now.asked.now.few_beliefs) }

pub judge_next-requires-clause-model : goal.judge_next-requires-clause-model
judge_next-requires-clause-model c = c.loop-index.invariant.told.model

pub judge_next-requires-clause-goal : goal.judge_next-requires-clause-goal
judge_next-requires-clause-goal c = image_each_read (IsOver c.args.named.now.asked.now.atoms.now) (λ f. formula_of f.now) c.args.named.now.asked.now.beliefs.now c.loop-index.index c.index-beliefs-index.result c.loop-index-test.true c.index-beliefs-index.is c.args.named.now.asked.now.over

pub judge_next-requires-clause-made : goal.judge_next-requires-clause-made
judge_next-requires-clause-made c = c.loop-index.invariant.kept ∙ c.requires.made

pub loop-index-preserved : goal.loop-index-preserved
loop-index-preserved c = record {
  kept = c.in-Ok.ensures.kept ∙ c.loop-index.invariant.kept;
  told = one_told c.args.named.now.asked.now.atoms.now (map (λ f. formula_of f.now) c.args.premises.now) (entailment_at c.args.named.now.texts.now) (λ f. formula_of f.now) c.args.named.now.asked.now.beliefs.now c.args.lines.now c.loop-index.lines c.loop-index.index c.loop-index.told c.loop-index.invariant.told
      c.index-beliefs-index.result c.judge_next.new.lines c.in-Ok.next c.loop-index-test.true c.index-beliefs-index.is c.in-Ok.ensures.exact;
}

pub returns-in-Err-clause-exact : goal.returns-in-Err-clause-exact
returns-in-Err-clause-exact c =
    judging_failed (entailment_at c.args.named.now.texts.now) (IsAcceptedEntailment c.args.named.now.asked.now.atoms.now (map (λ f. formula_of f.now) c.args.premises.now)) (λ f. formula_of f.now) c.args.named.now.asked.now.beliefs.now c.args.lines.now c.loop-index.lines c.loop-index.index c.loop-index.told.are_right
    c.loop-index.invariant.told.judged c.in-Err.fault c.loop-index-test.true c.in-Err.ensures.exact

pub returns-then-not-told-clause-exact : goal.returns-then-not-told-clause-exact
returns-then-not-told-clause-exact c =
    places_refused c.args.named.now.asked.now.atoms.now (map (λ f. formula_of f.now) c.args.premises.now) (entailment_at c.args.named.now.texts.now) (λ f. formula_of f.now) c.args.named.now.asked.now.beliefs.now c.args.lines.now c.loop-index.lines c.loop-index.index c.loop-index.told c.loop-index.invariant.told
    c.loop-index-test.false (not-true c.loop-index.told.are_right c.if-not-told.true)

pub returns-clause-exact : goal.returns-clause-exact
returns-clause-exact c =
    places_told c.args.named.now.asked.now.atoms.now (map (λ f. formula_of f.now) c.args.premises.now) (entailment_at c.args.named.now.texts.now) (λ f. formula_of f.now) c.args.named.now.asked.now.beliefs.now c.args.lines.now c.loop-index.lines c.loop-index.index c.loop-index.told c.loop-index.invariant.told
    c.loop-index-test.false (not-false c.loop-index.told.are_right c.if-not-told.false)
