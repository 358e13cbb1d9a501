use Rattle.std.proofs.Common.{map, arith}
use Rattle.mcs_base.proofs.Booleans.{false_tells, true_tells}
use Rattle.mcs_system.specs.Seen.{formula_of}
use Rattle.mcs_cnf.specs.Entailments.{entailment_of}
use Rattle.mcs_evidence.specs.Defaults.{IsDenied}
use Rattle.mcs_cnf.proofs.ModelLemmas.{model-kept}
use Rattle.mcs_entailment.proofs.General.{go_start, go_on, go_stop, go_end}
use Rattle.mcs_base.proofs.Zipped.{zip_short}
use Rattle.std.proofs.lemmas.Bool.{iff_false}
use Rattle.mcs_entailment.proofs.entailment.deny.Goals as goal

pub returns-then-goals-entails : goal.returns-then-goals-entails
returns-then-goals-entails c =
    false_tells (zip_short (IsDenied c.args.asked.now.atoms.now (map (λ f. formula_of f.now) c.args.premises.now)) (λ f. formula_of f.now) entailment_of c.args.goals.now c.args.entails.now c.if-goals-entails.true)

pub loop-index-init : goal.loop-index-init
loop-index-init c = record { model = tt; rest = go_start (IsDenied c.args.asked.now.atoms.now (map (λ f. formula_of f.now) c.args.premises.now)) (λ f. formula_of f.now) entailment_of c.args.goals.now c.args.entails.now }

pub loop-index-preserved : goal.loop-index-preserved
loop-index-preserved c =
    let denied = c.denies.ensures.0 c.if-not-denies.false in
    record {
      model = rw c.model_shown-model.ensures (model-kept c.args.asked.now.atoms.now (map (λ f. formula_of f.now) c.args.premises.now) _ c.loop-index.model _ c.loop-index.invariant.model denied.0);
      rest = go_on (IsDenied c.args.asked.now.atoms.now (map (λ f. formula_of f.now) c.args.premises.now)) (λ f. formula_of f.now) entailment_of c.args.goals.now c.args.entails.now c.loop-index.index c.index-goals-index.result c.index-entails-index.result
          c.loop-index-test.true (omega arith) c.index-goals-index.is c.index-entails-index.is c.loop-index.invariant.rest denied;
    }

pub returns-then-not-denies : goal.returns-then-not-denies
returns-then-not-denies c =
    false_tells (go_stop (IsDenied c.args.asked.now.atoms.now (map (λ f. formula_of f.now) c.args.premises.now)) (λ f. formula_of f.now) entailment_of c.args.goals.now c.args.entails.now c.loop-index.index c.index-goals-index.result c.index-entails-index.result
    c.loop-index-test.true (omega arith) c.index-goals-index.is c.index-entails-index.is c.loop-index.invariant.rest (iff_false c.denies.ensures c.if-not-denies.true))

pub returns : goal.returns
returns c =
    true_tells (go_end (IsDenied c.args.asked.now.atoms.now (map (λ f. formula_of f.now) c.args.premises.now)) (λ f. formula_of f.now) entailment_of c.args.goals.now c.args.entails.now c.loop-index.index c.loop-index-test.false c.if-goals-entails.false c.loop-index.invariant.rest)
