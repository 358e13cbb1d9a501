use Rattle.std.proofs.Common.{sym, ◌+◌, List, arith, true, false, refl}
use Rattle.std.proofs.lemmas.List.{length-map}
use Rattle.mcs_system.specs.Logic.{same_name}
use Rattle.mcs_system.specs.declared.knowledge.Context as code_context
use Rattle.mcs_account.proofs.AccountLemmas.{names_of_code, name-here, found-here, not-here, nowhere, number-image, other-way}
use Rattle.mcs_account.proofs.account.Account.number_of.Goals as goal

pub returns-then-eq : goal.returns-then-eq
returns-then-eq c =
    let cs : List code_context.Context = c.deref-context-items.result.now in
    let i = c.loop-context.context-index in
    let here = name-here cs i (i + 1) c.context-item.result refl c.loop-context-test.true c.context-item.is in
    let at = found-here (same_name c.args.name.now) (names_of_code cs) i c.loop-context.invariant.same c.context-item.result.name _ here (other-way c.context-item.result.name c.args.name.now c.bytes.result.now c.eq.result true c.bytes.ensures.value c.eq.ensures c.if-eq.true) in
    rw (sym c.deref-context-items.ensures.value) (number-image cs c.args.name.now i c.loop-context.number c.loop-context.invariant.counted at)

pub loop-context-preserved : goal.loop-context-preserved
loop-context-preserved c =
    let cs : List code_context.Context = c.deref-context-items.result.now in
    let i = c.loop-context.context-index in
    let here = name-here cs i (i + 1) c.context-item.result refl c.loop-context-test.true c.context-item.is in
    record {
      counted = omega (arith, c.loop-context.invariant.counted, c.saturating_add-number.ensures);
      same = not-here (same_name c.args.name.now) (names_of_code cs) i c.loop-context.invariant.same c.context-item.result.name here (other-way c.context-item.result.name c.args.name.now c.bytes.result.now c.eq.result false c.bytes.ensures.value c.eq.ensures c.if-eq.false);
    }

pub returns : goal.returns
returns c =
    let cs : List code_context.Context = c.deref-context-items.result.now in
    let i = c.loop-context.context-index in
    let at = nowhere (same_name c.args.name.now) (names_of_code cs) i c.loop-context.invariant.same (let many = length-map cs (λ (x : code_context.Context). x.name) in omega (arith, many, c.loop-context-test.false, c.loop-context.auto.context-index-end)) in
    rw (sym c.deref-context-items.ensures.value) (number-image cs c.args.name.now i c.loop-context.number c.loop-context.invariant.counted at)
