use Rattle.std.proofs.Common.{◌≡◌, true, false, ◌∙◌, sym, map, take, refl}
use Rattle.mcs_sets.specs.Sets.{has}
use Rattle.mcs_base.proofs.Mapped.{image_each_read, slice_get-map_read}
use Rattle.mcs_system.specs.Seen.{default_of}
use Rattle.mcs_cnf.specs.Entailments.{entailment_of, says_yes}
use Rattle.mcs_grounding.specs.Theories.{AreClausesOf}
use Rattle.mcs_evidence.specs.Theories.{IsOverDefault}
use Rattle.mcs_grounding.specs.Told.{prerequisites}
use Rattle.mcs_grounding.proofs.DeniedLemmas.{denied_push, denied_same, next_more, next_same}
use Rattle.mcs_grounding.proofs.grounding.ask_next.Goals.{then-has+in_ok-pre+else-says_yes+in_ok-push, else-has}
use Rattle.mcs_grounding.proofs.grounding.ask_next.Goals as goal

pub entails_from-requires-clause-goal : goal.entails_from-requires-clause-goal
entails_from-requires-clause-goal c =
    (image_each_read (IsOverDefault c.args.theory.now.asked.now.atoms.now) (λ d. default_of d.now) c.args.theory.now.defaults.now c.loop-index.index c.index-defaults-index.result c.loop-index-test.true c.index-defaults-index.is c.args.theory.now.over).0

pub returns-then-says_yes-clause-told : goal.returns-then-says_yes-clause-told
returns-then-says_yes-clause-told c fs is =
    let said : says_yes (entailment_of c.in_ok-pre.pre) ≡ true = sym c.says_yes.ensures ∙ c.if-says_yes.true in
    let now : AreClausesOf c.args.theory.now.asked.now.atoms.now fs c.loop-index.known = rw c.loop-index.invariant.kept is in
    (default_of c.index-defaults-index.result.now, slice_get-map_read (λ d. default_of d.now) c.args.theory.now.defaults.now c.loop-index.index c.index-defaults-index.result c.loop-index-test.true c.index-defaults-index.is, (c.in_ok-pre.ensures.accepted fs now.0 now.1, said))

pub loop-index-preserved : goal.loop-index-preserved
loop-index-preserved c =
    let i = c.loop-index.index in
    let x = c.index-defaults-index.result in
    let names = c.args.theory.now.asked.now.atoms.now in
    elim c.if-has.branch [
      | then-has+in_ok-pre+else-says_yes+in_ok-push w ↦
          let member : has c.args.left i ≡ true = sym c.has.ensures.value ∙ w.if-has.true in
          let said : says_yes (entailment_of w.in_ok-pre.pre) ≡ false = sym w.says_yes.ensures ∙ w.if-says_yes.false in
          rw (w.known-is, w.denied-is) (record {
            kept = w.entails_from.ensures.kept ∙ c.loop-index.invariant.kept;
            denied = λ fs is. (let now : AreClausesOf names fs c.loop-index.known = rw c.loop-index.invariant.kept is in
                denied_push names fs (prerequisites (map (λ d. default_of d.now) (take i c.args.theory.now.defaults.now)) c.args.left) _ (default_of x.now).pre c.loop-index.denied.items w.push.new.self.items w.in_ok-pre.pre
                (next_more (λ d. default_of d.now) c.args.theory.now.defaults.now c.args.left i x c.loop-index-test.true c.index-defaults-index.is member) w.in_ok-push.ensures.items (w.in_ok-pre.ensures.accepted fs now.0 now.1) said (c.loop-index.invariant.denied fs is));
          })
      | else-has w ↦
          let member : has c.args.left i ≡ false = sym c.has.ensures.value ∙ w.if-has.false in
          rw (w.known-is, w.denied-is) (record {
            kept = c.loop-index.invariant.kept;
            denied = λ fs is. denied_same names fs _ _ _ _ (sym (next_same (λ d. default_of d.now) c.args.theory.now.defaults.now c.args.left i x c.loop-index-test.true c.index-defaults-index.is member)) refl (c.loop-index.invariant.denied fs is);
          })
    ]
