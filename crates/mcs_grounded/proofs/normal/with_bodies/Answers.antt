use Rattle.std.proofs.Common.{◌∙◌, ℕ, List, [], ◌∷◌, ◌++◌, sym, ap, subst, take}
use Rattle.std.proofs.lemmas.List.{take_all}
use Rattle.mcs_sets.specs.Sets.{union}
use Rattle.mcs_grounded.specs.Parts.{HaveBodiesOf}
use Rattle.mcs_grounded.specs.declared.placed.NormalRule.{NormalRule}
use Rattle.mcs_grounded.proofs.Loops.{next_of, own_of, bodies_of_none, with_body, without_body}
use Rattle.mcs_grounded.proofs.normal.with_bodies.Goals.{then-has, else-has}
use Rattle.mcs_grounded.proofs.normal.with_bodies.Goals as goal

pub loop-rule-init : goal.loop-rule-init
loop-rule-init c = bodies_of_none c.args.rules.now c.args.places

pub loop-rule-preserved : goal.loop-rule-preserved
loop-rule-preserved c =
    let rules = c.args.rules.now in
    let k = c.loop-rule.rule-index in
    let r = c.rule-item.result in
    let own = own_of rules k r c.loop-rule-test.true c.rule-item.is in
    next_of (λ (rs : List NormalRule). HaveBodiesOf rules rs c.args.places c.if-has.more) rules k r c.loop-rule-test.true c.rule-item.is (elim c.if-has.branch [
      | then-has w ↦ subst (λ (x : ℕ). HaveBodiesOf rules (take k rules ++ r ∷ []) c.args.places x) (sym (w.more-is ∙ w.union-more.ensures ∙ ap (λ (x : ℕ). union x r.neg) w.union.ensures))
          (with_body rules (take k rules) c.args.places c.loop-rule.more r c.loop-rule.invariant own (sym c.has.ensures.value ∙ w.if-has.true))
      | else-has w ↦ subst (λ (x : ℕ). HaveBodiesOf rules (take k rules ++ r ∷ []) c.args.places x) (sym w.more-is)
          (without_body rules (take k rules) c.args.places c.loop-rule.more r c.loop-rule.invariant (sym c.has.ensures.value ∙ w.if-has.false))
    ])

pub returns : goal.returns
returns c = subst (λ (rs : List NormalRule). HaveBodiesOf c.args.rules.now rs c.args.places c.loop-rule.more) (take_all c.loop-rule.rule-index c.args.rules.now c.loop-rule-test.false) c.loop-rule.invariant
