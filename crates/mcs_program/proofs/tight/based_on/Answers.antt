use Rattle.std.proofs.Common.{◌≡◌, ◌+◌, ◌∙◌, ℕ, true, take, sym, subst}
use Rattle.std.specs.List.{AllByRecursion}
use Rattle.mcs_sets.specs.Sets.{minus}
use Rattle.mcs_base.proofs.Each.{all_take_more}
use Rattle.mcs_program.specs.Placing.{places_within}
use Rattle.mcs_program.proofs.TightLemmas.{RestsOn, rests_less, rests_without}
use Rattle.mcs_program.proofs.tight.based_on.Goals as goal
use Rattle.mcs_program.proofs.tight.based_on.Goals.{then-not-lies_within, else-not-lies_within}

pub loop-rule-preserved : goal.loop-rule-preserved
loop-rule-preserved c =
    let rules = c.args.rules.now in
    let set = c.args.set in
    let i = c.loop-rule.rule-index in
    let r = c.rule-item.result in
    let less = c.loop-rule-test.true in
    let is = c.rule-item.is in
    let before = c.loop-rule.invariant in
    elim c.if-not-lies_within.branch [
      | then-not-lies_within w ↦
          subst (λ (b : ℕ). AllByRecursion (RestsOn set b) (take (i + 1) rules)) (sym (w.based-is ∙ w.minus-based.ensures))
          (all_take_more (RestsOn set (minus c.loop-rule.based r.head)) rules i r less is (rests_less set c.loop-rule.based r.head (take i rules) before) (rests_without set c.loop-rule.based r))
      | else-not-lies_within w ↦
          let within : places_within r.pos set ≡ true = sym c.lies_within.ensures ∙ w.if-not-lies_within.false in
          subst (λ (b : ℕ). AllByRecursion (RestsOn set b) (take (i + 1) rules)) (sym w.based-is)
          (all_take_more (RestsOn set c.loop-rule.based) rules i r less is before (λ _. within))
    ]
