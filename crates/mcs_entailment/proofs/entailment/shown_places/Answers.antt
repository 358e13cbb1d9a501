use Rattle.std.proofs.Common.{◌∙◌, List, map, refl, sym, arith}
use Rattle.std.proofs.lemmas.Bool.{iff_false}
use Rattle.mcs_base.proofs.Mapped.{image_each_read}
use Rattle.mcs_base.proofs.Zipped.{zip_short}
use Rattle.mcs_system.specs.Plain.{Formula}
use Rattle.mcs_system.specs.Seen.{formula_of}
use Rattle.mcs_cnf.specs.ClauseLists.{IsOver}
use Rattle.mcs_cnf.specs.Entailments.{entailment_of, IsAcceptedEntailment}
use Rattle.mcs_cnf.proofs.GrowingLemmas.{room_known}
use Rattle.mcs_cnf.proofs.ModelLemmas.{model-kept}
use Rattle.mcs_entailment.proofs.General.{go_start, go_on, go_stop, go_end}
use Rattle.mcs_entailment.proofs.ShownLemmas.{unless_told}
use Rattle.mcs_entailment.proofs.entailment.shown_places.Goals.{else-not-denies-via-then-not-denies+in_ok-shows+else-not-branch, else-not-denies-via-else-not-denies}
use Rattle.mcs_entailment.proofs.entailment.shown_places.Goals as goal

pub returns-then-entails-beliefs-clause-exact : goal.returns-then-entails-beliefs-clause-exact
returns-then-entails-beliefs-clause-exact c places h =
    zip_short (IsAcceptedEntailment c.args.asked.now.atoms.now (map (λ f. formula_of f.now) c.args.premises.now)) (λ f. formula_of f.now) entailment_of c.args.asked.now.beliefs.now c.args.entails.now (λ same. c.if-entails-beliefs.true (sym same)) h.entailments

pub loop-index-init : goal.loop-index-init
loop-index-init c = record {
  model = tt;
  kept = refl;
  rest = go_start (IsAcceptedEntailment c.args.asked.now.atoms.now (map (λ f. formula_of f.now) c.args.premises.now)) (λ f. formula_of f.now) entailment_of c.args.asked.now.beliefs.now c.args.entails.now;
}

pub shows-requires-clause-goal : goal.shows-requires-clause-goal
shows-requires-clause-goal c =
    image_each_read (IsOver c.args.asked.now.atoms.now) (λ b. formula_of b.now) c.args.asked.now.beliefs.now c.loop-index.index c.index-beliefs-index.result c.loop-index-test.true c.index-beliefs-index.is c.args.asked.now.over

pub shows-requires-clause-room : goal.shows-requires-clause-room
shows-requires-clause-room c = room_known c.args.asked.now.atoms.now c.loop-index.known (map (λ f. formula_of f.now) c.args.premises.now) (c.loop-index.invariant.kept ∙ c.requires.made)

pub loop-index-preserved : goal.loop-index-preserved
loop-index-preserved c =
    let names = c.args.asked.now.atoms.now in
    let fs : List Formula = map (λ f. formula_of f.now) c.args.premises.now in
    let before = c.loop-index.invariant in
    elim c.else-not-denies.branch [
      | else-not-denies-via-then-not-denies+in_ok-shows+else-not-branch w ↦
          let accepted = ((w.in_ok-shows.ensures.exact fs (before.kept ∙ c.requires.made)).0 w.if-not-branch.false).0 in
          rw w.known-is (record {
            model = rw c.model_shown-model.ensures (model-kept names fs _ c.loop-index.model _ before.model accepted);
            kept = w.in_ok-shows.ensures.kept ∙ before.kept;
            rest = go_on (IsAcceptedEntailment names fs) (λ f. formula_of f.now) entailment_of c.args.asked.now.beliefs.now c.args.entails.now c.loop-index.index c.index-beliefs-index.result c.index-entails-index.result
                c.loop-index-test.true (omega arith) c.index-beliefs-index.is c.index-entails-index.is before.rest accepted;
          })
      | else-not-denies-via-else-not-denies w ↦
          let accepted = (c.denies.ensures.0 w.if-not-denies.false).0 in
          rw w.known-is (record {
            model = rw c.model_shown-model.ensures (model-kept names fs _ c.loop-index.model _ before.model accepted);
            kept = before.kept;
            rest = go_on (IsAcceptedEntailment names fs) (λ f. formula_of f.now) entailment_of c.args.asked.now.beliefs.now c.args.entails.now c.loop-index.index c.index-beliefs-index.result c.index-entails-index.result
                c.loop-index-test.true (omega arith) c.index-beliefs-index.is c.index-entails-index.is before.rest accepted;
          })
    ]

pub returns-then-not-branch-clause-exact : goal.returns-then-not-branch-clause-exact
returns-then-not-branch-clause-exact c places h =
    let names = c.args.asked.now.atoms.now in
    let fs : List Formula = map (λ f. formula_of f.now) c.args.premises.now in
    let not_denied = iff_false c.denies.ensures c.if-not-denies.true in
    let not_shown = iff_false (c.in_ok-shows.ensures.exact fs (c.loop-index.invariant.kept ∙ c.requires.made)) c.if-not-branch.true in
    go_stop (IsAcceptedEntailment names fs) (λ f. formula_of f.now) entailment_of c.args.asked.now.beliefs.now c.args.entails.now c.loop-index.index c.index-beliefs-index.result c.index-entails-index.result
    c.loop-index-test.true (omega arith) c.index-beliefs-index.is c.index-entails-index.is c.loop-index.invariant.rest (unless_told names fs _ _ not_denied not_shown) h.entailments

pub returns-clause-exact : goal.returns-clause-exact
returns-clause-exact c = record {
  entailments = go_end (IsAcceptedEntailment c.args.asked.now.atoms.now (map (λ f. formula_of f.now) c.args.premises.now)) (λ f. formula_of f.now) entailment_of c.args.asked.now.beliefs.now c.args.entails.now c.loop-index.index c.loop-index-test.false (sym c.if-entails-beliefs.false) c.loop-index.invariant.rest;
  exactly = c.places_with_yes.ensures;
}
