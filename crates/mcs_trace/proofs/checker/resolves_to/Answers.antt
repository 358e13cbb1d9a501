use Rattle.std.proofs.Common.{◌≡◌, ◌++◌, ◌+◌, ◌↔◌, drop, ℤ, List, sym, ap, ◌∙◌, subst, true≢false}
use Rattle.std.proofs.lemmas.Bool.Decides.{when_true, when_false}
use Rattle.std.specs.Cmp.Rules.{signed_items}
use Rattle.mcs_trace.specs.Clauses.{IsClause}
use Rattle.mcs_trace.specs.Resolution.{IsResolvent}
use Rattle.mcs_trace.specs.Traces.{ResolvesTo, clauses_of}
use Rattle.mcs_trace.proofs.TraceLemmas.{chain-stuck, chain-more, chain-end}
use Rattle.mcs_trace.proofs.checker.resolves_to.Goals as goal

pub returns-then-not-branch : goal.returns-then-not-branch
returns-then-not-branch c =
    let known : List (List ℤ) = c.args.clauses.now ++ clauses_of c.args.steps.now in
    let next : List ℤ = c.in-Some.next.now in
    let stuck : (m : List ℤ) → IsResolvent c.deref.result.now c.literals.result.now m → ⊥ = when_false _ _ c.if-not-branch.true c.in_ok-resolve.ensures.resolvent in (
      λ e. absurd (true≢false (sym e)),
      λ h. absurd (chain-stuck known c.loop-number.current.items c.args.numbers.now c.args.last.now c.loop-number.number-index next c.loop-number-test.true (sym c.in-Some.ensures)
          (λ m r. stuck m (subst (λ (x : List ℤ). IsResolvent x c.literals.result.now m) (sym c.deref.ensures.value) (subst (λ (x : List ℤ). IsResolvent c.loop-number.current.items x m) (sym c.literals.ensures.value) r)))
          (c.loop-number.invariant.1.0 h)),
    )

pub loop-number-preserved : goal.loop-number-preserved
loop-number-preserved c =
    let known : List (List ℤ) = c.args.clauses.now ++ clauses_of c.args.steps.now in
    let next : List ℤ = c.in-Some.next.now in
    let out : List ℤ = c.resolve.new.out.items in
    let swapped : c.swap.new.x.items ≡ out = ap (λ v. v.items) c.swap.ensures.x_after in
    let r : IsResolvent c.deref.result.now c.literals.result.now out = when_true _ _ c.if-not-branch.false c.in_ok-resolve.ensures.resolvent in
    let r' : IsResolvent c.loop-number.current.items next out =
    subst (λ (x : List ℤ). IsResolvent x next out) c.deref.ensures.value (subst (λ (x : List ℤ). IsResolvent c.deref.result.now x out) c.literals.ensures.value r) in
    let more : ResolvesTo known c.loop-number.current.items (drop c.loop-number.number-index c.args.numbers.now) c.args.last.now ↔ ResolvesTo known out (drop (c.loop-number.number-index + 1) c.args.numbers.now) c.args.last.now =
    chain-more known c.loop-number.current.items c.args.numbers.now c.args.last.now c.loop-number.number-index next out c.loop-number-test.true (sym c.in-Some.ensures) r' in (
      subst IsClause (sym swapped) (c.in_ok-resolve.ensures.clause c.if-not-branch.false),
      (
        λ h. subst (λ (x : List ℤ). ResolvesTo known x (drop (c.loop-number.number-index + 1) c.args.numbers.now) c.args.last.now) (sym swapped) (more.0 (c.loop-number.invariant.1.0 h)),
        λ h. c.loop-number.invariant.1.1 (more.1 (subst (λ (x : List ℤ). ResolvesTo known x (drop (c.loop-number.number-index + 1) c.args.numbers.now) c.args.last.now) swapped h)),
      ),
    )

pub returns : goal.returns
returns c =
    let known : List (List ℤ) = c.args.clauses.now ++ clauses_of c.args.steps.now in
    let end = chain-end known c.loop-number.current.items c.args.numbers.now c.args.last.now c.loop-number.number-index c.loop-number-test.false in
    let same = signed_items c.as_slice.result.now c.args.last.now in (
      λ e. c.loop-number.invariant.1.1 (end.1 (sym c.as_slice.ensures.value ∙ same.0 (sym c.eq.ensures ∙ e))),
      λ h. c.eq.ensures ∙ same.1 (c.as_slice.ensures.value ∙ end.0 (c.loop-number.invariant.1.0 h)),
    )
