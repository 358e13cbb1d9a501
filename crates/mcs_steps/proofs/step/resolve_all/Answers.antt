use Rattle.std.proofs.Common.{◌≡◌, ◌++◌, ◌-◌, length, take, drop, ℤ, List, sym, ap, ◌∙◌, subst}
use Rattle.std.proofs.lemmas.Bool.Decides.{when_true, when_false}
use Rattle.mcs_trace.specs.Clauses.{IsClause}
use Rattle.mcs_trace.specs.Resolution.{IsResolvent}
use Rattle.mcs_steps.proofs.ChainLemmas.{GoesOn, some_bytes, no_bytes, no_number, no_clause_there, no_resolvent, goes_on, ends_on, begins_on}
use Rattle.mcs_steps.proofs.step.resolve_all.Goals as goal

pub loop-left-init : goal.loop-left-init
loop-left-init c = record { clause = c.requires.current; on = begins_on (c.args.clauses.now ++ c.args.derived.now) c.args.numbers.now c.args.current.now.items }

pub returns-in_default : goal.returns-in_default
returns-in_default c =
    let left = c.loop-left.left.now in
    let (b, is) = some_bytes left (sym c.is_empty.ensures ∙ c.loop-left-test.true) in
    no_number (c.args.clauses.now ++ c.args.derived.now) c.args.numbers.now c.args.current.now.items left c.loop-left.current.items c.loop-left.invariant.on b (take (length left - 1) (drop 1 left)) is c.in_default.ensures.read

pub returns-in_default-numbered : goal.returns-in_default-numbered
returns-in_default-numbered c =
    let left = c.loop-left.left.now in
    let (b, is) = some_bytes left (sym c.is_empty.ensures ∙ c.loop-left-test.true) in
    no_clause_there (c.args.clauses.now ++ c.args.derived.now) c.args.numbers.now c.args.current.now.items left c.loop-left.current.items c.loop-left.invariant.on b c.in-Some.number (take (length left - 1) (drop 1 left)) c.in-Some.rest.now is
    c.in-Some.ensures.read c.loop-left.current.items c.in_default-numbered.ensures.value

pub returns-then-not-branch : goal.returns-then-not-branch
returns-then-not-branch c =
    let left = c.loop-left.left.now in
    let (b, is) = some_bytes left (sym c.is_empty.ensures ∙ c.loop-left-test.true) in
    let stuck : (m : List ℤ) → IsResolvent c.deref.result.now c.in-Some-numbered.next.now m → ⊥ = when_false _ _ c.if-not-branch.true c.in_ok-resolve.ensures.resolvent in
    no_resolvent (c.args.clauses.now ++ c.args.derived.now) c.args.numbers.now c.args.current.now.items left c.loop-left.current.items c.loop-left.invariant.on b c.in-Some.number (take (length left - 1) (drop 1 left)) c.in-Some.rest.now is
    c.in-Some.ensures.read c.loop-left.current.items c.in-Some-numbered.next.now c.in-Some-numbered.ensures.value
    (λ m r. stuck m (subst (λ (x : List ℤ). IsResolvent x c.in-Some-numbered.next.now m) (sym c.deref.ensures.value) r))

pub loop-left-preserved : goal.loop-left-preserved
loop-left-preserved c =
    let known : List (List ℤ) = c.args.clauses.now ++ c.args.derived.now in
    let left = c.loop-left.left.now in
    let (b, is) = some_bytes left (sym c.is_empty.ensures ∙ c.loop-left-test.true) in
    let next : List ℤ = c.in-Some-numbered.next.now in
    let out : List ℤ = c.resolve.new.out.items in
    let swapped : c.swap.new.x.items ≡ out = ap (λ v. v.items) c.swap.ensures.x_after in
    let r : IsResolvent c.deref.result.now next out = when_true _ _ c.if-not-branch.false c.in_ok-resolve.ensures.resolvent in
    let r' : IsResolvent c.loop-left.current.items next out = subst (λ (x : List ℤ). IsResolvent x next out) c.deref.ensures.value r in
    record {
      clause = subst IsClause (sym swapped) (c.in_ok-resolve.ensures.clause c.if-not-branch.false);
      on = subst (λ (x : List ℤ). GoesOn known c.args.numbers.now c.args.current.now.items c.in-Some.rest.now x) (sym swapped)
          (goes_on known c.args.numbers.now c.args.current.now.items left c.loop-left.current.items c.loop-left.invariant.on b c.in-Some.number (take (length left - 1) (drop 1 left)) c.in-Some.rest.now is c.in-Some.ensures.read next out
          c.in-Some-numbered.ensures.value r');
    }

pub returns : goal.returns
returns c =
    let left = c.loop-left.left.now in
    ends_on (c.args.clauses.now ++ c.args.derived.now) c.args.numbers.now c.args.current.now.items left c.loop-left.current.items c.loop-left.invariant.on (no_bytes left (sym c.is_empty.ensures ∙ c.loop-left-test.false))
