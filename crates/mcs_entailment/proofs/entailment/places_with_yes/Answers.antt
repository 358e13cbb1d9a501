use Rattle.std.proofs.Common.{map, length, sym, ◌∙◌}
use Rattle.mcs_cnf.specs.Classical.{HasYes}
use Rattle.mcs_cnf.specs.Entailments.{entailment_of}
use Rattle.mcs_entailment.proofs.General.{gathered_none, gathered_taken, gathered_passed, gathered_all}
use Rattle.mcs_entailment.proofs.ShownLemmas.{yes_at, not_at, yes_below}
use Rattle.mcs_entailment.proofs.entailment.places_with_yes.Goals.{then-says_yes, else-says_yes}
use Rattle.mcs_entailment.proofs.entailment.places_with_yes.Goals as goal

pub loop-index-init : goal.loop-index-init
loop-index-init c = gathered_none (HasYes (map entailment_of c.args.entails.now)) c.empty-places.result c.empty-places.ensures

pub loop-index-preserved : goal.loop-index-preserved
loop-index-preserved c =
    let i = c.loop-index.index in
    let e = c.index-entails-index.result in
    elim c.if-says_yes.branch [
      | then-says_yes w ↦ rw (w.places-is, w.with-places.ensures)
          (gathered_taken (HasYes (map entailment_of c.args.entails.now)) c.loop-index.places i c.loop-index.invariant (yes_at c.args.entails.now i e c.loop-index-test.true c.index-entails-index.is (sym c.says_yes.ensures ∙ w.if-says_yes.true)))
      | else-says_yes w ↦ rw w.places-is
          (gathered_passed (HasYes (map entailment_of c.args.entails.now)) c.loop-index.places i c.loop-index.invariant (not_at c.args.entails.now i e c.loop-index-test.true c.index-entails-index.is (sym c.says_yes.ensures ∙ w.if-says_yes.false)))
    ]

pub returns : goal.returns
returns c = gathered_all (HasYes (map entailment_of c.args.entails.now)) c.loop-index.places c.loop-index.index (length c.args.entails.now) c.loop-index-test.false (yes_below c.args.entails.now) c.loop-index.invariant
