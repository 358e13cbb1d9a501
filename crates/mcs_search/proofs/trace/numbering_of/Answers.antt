use Rattle.std.proofs.Common.{refl, sym, subst, arith, length, ℕ}
use Rattle.mcs_search.specs.Numbering.{NameBelow}
use Rattle.mcs_search.proofs.NumberingLemmas.{names-at, numbering-next, room-left}
use Rattle.mcs_search.proofs.trace.numbering_of.Goals as goal

pub take-requires-clause-chain : goal.take-requires-clause-chain
take-requires-clause-chain c = subst (λ (n : ℕ). NameBelow n c.row-in-loop-index.result.now) (sym c.loop-index.invariant.sized) (names-at c.args.clauses.now c.args.chains.now c.requires.store.right c.loop-index.index c.row-in-loop-index.result.now c.row-in-loop-index.ensures)

pub take-requires-clause-room : goal.take-requires-clause-room
take-requires-clause-room c some =
    let so = c.loop-index.invariant in
    let n = c.loop-index.numbering in
    let room = room-left c.args.chains.now c.loop-index.index c.row-in-loop-index.result.now n.given (length n.steps.items) c.row-in-loop-index.ensures some so.counted so.few in
    omega (arith, c.requires.store.counted, c.requires.fits, c.requires.store.right.sized)

pub loop-index-preserved : goal.loop-index-preserved
loop-index-preserved c = numbering-next c.args.clauses.now c.args.chains.now c.args.needed.now c.requires.store.right c.requires.closed c.loop-index.index c.args.count c.loop-index.numbering c.take.new.self c.row.result.now c.row-in-loop-index.result.now _ c.requires.store.counted c.loop-index.invariant c.row.ensures c.row-in-loop-index.ensures refl c.in_default.ensures
