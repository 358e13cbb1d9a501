use Rattle.std.proofs.Common.{◌∙◌, ℕ, List, [], ◌∷◌, ◌++◌, sym, subst, take, true≢false}
use Rattle.std.proofs.lemmas.List.{take_all}
use Rattle.mcs_grounded.specs.Parts.{HaveHeadsOf}
use Rattle.mcs_grounded.specs.declared.placed.NormalRule.{NormalRule}
use Rattle.mcs_grounded.proofs.Loops.{next_of, own_of, heads_of_none, with_head, without_head}
use Rattle.mcs_grounded.proofs.normal.with_heads.Goals.{then-not-meets+then-within, else-not-meets, else-not-meets-via-then-not-meets+else-within, else-not-meets-via-else-not-meets}
use Rattle.mcs_grounded.proofs.normal.with_heads.Goals as goal

pub loop-rule-init : goal.loop-rule-init
loop-rule-init c = heads_of_none c.args.rules.now c.args.against c.args.places

pub loop-rule-preserved : goal.loop-rule-preserved
loop-rule-preserved c =
    let rules = c.args.rules.now in
    let k = c.loop-rule.rule-index in
    let r = c.rule-item.result in
    let own = own_of rules k r c.loop-rule-test.true c.rule-item.is in
    next_of (λ (rs : List NormalRule). HaveHeadsOf rules rs c.args.against c.args.places c.if-not-meets.more) rules k r c.loop-rule-test.true c.rule-item.is (elim c.if-not-meets.branch [
      | then-not-meets+then-within w ↦ subst (λ (x : ℕ). HaveHeadsOf rules (take k rules ++ r ∷ []) c.args.against c.args.places x) (sym (w.more-is ∙ w.with-more.ensures))
          (with_head rules (take k rules) c.args.against c.args.places c.loop-rule.more r c.loop-rule.invariant own (record {
            in_reduct = λ j inside there. true≢false (sym (c.meets.ensures.1 (record { member = j; in_first = inside; in_second = there })) ∙ w.if-not-meets.true);
            supported = w.within.ensures.0 w.if-within.true;
          }))
      | else-not-meets w ↦ subst (λ (x : ℕ). HaveHeadsOf rules (take k rules ++ r ∷ []) c.args.against c.args.places x) (sym w.more-is)
          (without_head rules (take k rules) c.args.against c.args.places c.loop-rule.more r c.loop-rule.invariant (λ fire. elim w.else-not-meets.branch [
            | else-not-meets-via-then-not-meets+else-within v ↦ true≢false (sym (v.within.ensures.1 fire.supported) ∙ v.if-within.false)
            | else-not-meets-via-else-not-meets v ↦ (let both = c.meets.ensures.0 v.if-not-meets.false in fire.in_reduct both.member both.in_first both.in_second)
          ]))
    ])

pub returns : goal.returns
returns c = subst (λ (rs : List NormalRule). HaveHeadsOf c.args.rules.now rs c.args.against c.args.places c.loop-rule.more) (take_all c.loop-rule.rule-index c.args.rules.now c.loop-rule-test.false) c.loop-rule.invariant
