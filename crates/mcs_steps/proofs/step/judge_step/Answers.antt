use Rattle.std.proofs.Common.{◌≡◌, [], ◌∷◌, ◌++◌, Some, sym, ap, ◌∙◌, true≢false, ℤ, List}
use Rattle.std.proofs.lemmas.Option.{same_Some}
use Rattle.mcs_steps.proofs.ChainLemmas.{step_wrong, step_other, step_right}
use Rattle.mcs_steps.proofs.step.judge_step.Goals as goal

pub returns-then-not-branch : goal.returns-then-not-branch
returns-then-not-branch c = λ s spells. step_wrong c.args.clauses.now c.args.derived.now s c.in_ok-derive.field-0 c.derive.new.current.items c.if-not-branch.true (c.in_ok-derive.ensures s.chain spells.chain)

pub returns-then-not-are_spelled : goal.returns-then-not-are_spelled
returns-then-not-are_spelled c = λ s spells.
    step_other c.args.clauses.now c.args.derived.now s c.in_ok-derive.field-0 c.derive.new.current.items (c.in_ok-derive.ensures s.chain spells.chain)
    (λ same. true≢false (sym (c.are_spelled.ensures.1 (spells.literals ∙ ap (λ (x : List ℤ). Some x) (sym same ∙ sym c.deref.ensures.value))) ∙ c.if-not-are_spelled.true))

pub returns : goal.returns
returns c = λ s spells.
    let told : Some s.clause ≡ Some c.deref.result.now = sym spells.literals ∙ c.are_spelled.ensures.0 c.if-not-are_spelled.false in
    let same : c.derive.new.current.items ≡ s.clause = sym c.deref.ensures.value ∙ sym (same_Some s.clause c.deref.result.now told) in
    step_right c.args.clauses.now c.args.derived.now c.push.new.self s c.in_ok-derive.field-0 c.derive.new.current.items c.if-not-branch.false (c.in_ok-derive.ensures s.chain spells.chain) same
    (c.in_ok-push.ensures.ok ∙ ap (λ (x : List ℤ). c.args.derived.now ++ x ∷ []) c.deref-2.ensures.value)
