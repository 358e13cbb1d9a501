use Rattle.std.proofs.Common.{◌≡◌, ◌∙◌, ℕ, List, true, ap, sym, subst, take, true≢false}
use Rattle.std.proofs.lemmas.List.{take_all}
use Rattle.mcs_sets.specs.Sets.{has, Within}
use Rattle.mcs_system.specs.Repairs.{marks_of}
use Rattle.mcs_system.specs.Systems.{all_rules}
use Rattle.mcs_system.proofs.ContextSets.{rules_into_known}
use Rattle.mcs_rows.specs.Reach.{own_marks}
use Rattle.mcs_rows.proofs.NearLemmas.{AreNear, near_more, near_less}
use Rattle.mcs_rows.proofs.local.known_of.Goals.{then-within+in_ok-push, else-within}
use Rattle.mcs_rows.proofs.local.known_of.Goals as goal

pub loop-set-preserved : goal.loop-set-preserved
loop-set-preserved c =
    let own = c.marks_of-own.result in
    let sets = c.args.known.now in
    let k = c.loop-set.set-index in
    let near = c.loop-set.near.items in
    elim c.if-within.branch [
      | then-within+in_ok-push w ↦ rw w.near-is (rw w.in_ok-push.ensures.items (near_more own sets k c.set-item.result c.loop-set-test.true c.set-item.is near c.loop-set.invariant))
      | else-within w ↦ rw w.near-is (near_less own sets k c.set-item.result c.loop-set-test.true c.set-item.is (λ h. true≢false (sym (c.within.ensures.1 h) ∙ w.if-within.false)) near c.loop-set.invariant)
    ]

pub returns : goal.returns
returns c =
    let m = c.args.system.now in
    let rules = c.rules_of-rules.result in
    let known : Within rules (all_rules m) = λ k h. rules_into_known m c.args.i k (subst (λ (s : ℕ). has s k ≡ true) c.rules_of-rules.ensures h) in
    let is : c.marks_of-own.result ≡ own_marks m c.args.i = c.marks_of-own.ensures m known known ∙ ap (λ s. marks_of m s s) c.rules_of-rules.ensures in
    subst (λ (xs : List ℕ). AreNear (own_marks m c.args.i) xs c.loop-set.near.items) (take_all c.loop-set.set-index c.args.known.now c.loop-set-test.false)
    (subst (λ (s : ℕ). AreNear s (take c.loop-set.set-index c.args.known.now) c.loop-set.near.items) is c.loop-set.invariant)
