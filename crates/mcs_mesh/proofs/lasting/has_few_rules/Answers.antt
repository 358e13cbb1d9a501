use Rattle.std.proofs.Common.{◌≡◌, ◌≤◌, ◌∙◌, ap, sym, subst, length, arith}
use Rattle.std.proofs.lemmas.List.{length-map}
use borrow.Author.Count.{below_more}
use Rattle.mcs_sets.specs.Sets.{size, common}
use Rattle.mcs_system.specs.Imports.{rules_into}
use Rattle.mcs_system.specs.Seen.{context_of}
use Rattle.mcs_mesh.specs.Rounds.{changeable}
use Rattle.mcs_mesh.proofs.lasting.has_few_rules.Goals as goal

pub loop-context-preserved : goal.loop-context-preserved
loop-context-preserved c =
    let m = c.args.system.now in
    let few : size (common (rules_into m c.loop-context.context) (changeable m)) ≤ c.args.level =
    subst (λ n. size (common n (changeable m)) ≤ c.args.level) c.rules_of.ensures
    (subst (λ n. size (common c.rules_of.result n) ≤ c.args.level) c.changeable-changeable.ensures
    (subst (λ n. size n ≤ c.args.level) c.common.ensures
    (subst (λ n. n ≤ c.args.level) c.count.ensures.number c.if-count-level.false))) in
    below_more (λ i. size (common (rules_into m i) (changeable m)) ≤ c.args.level) c.loop-context.context c.loop-context.invariant few

pub returns : goal.returns
returns c = λ _ i less.
    let long : length c.contexts.result.now ≡ length c.args.system.now.contexts = sym (length-map c.contexts.result.now context_of) ∙ ap length c.contexts.ensures.value in
    let low = c.loop-context-test.false in
    let high = c.loop-context.auto.context-end in
    c.loop-context.invariant i (omega (arith, long, low, high, less))

pub loop-context-init : goal.loop-context-init
loop-context-init c = λ i less. absurd (omega arith)
