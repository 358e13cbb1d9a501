use Rattle.std.proofs.Common.{sym, ◌∙◌, subst, length, true, Bool, [], ℕ, List, ℤ}
use Rattle.mcs_search.specs.Numbering.{AreMarked, AreChainsMarked, IsRead, NameBelow}
use Rattle.mcs_search.proofs.NumberingLemmas.{chain-below, names-at, numbering-ends}
use Rattle.mcs_search.proofs.trace.trace_to.Goals as goal

pub needed_for-requires-clause-chains : goal.needed_for-requires-clause-chains
needed_for-requires-clause-chains c = names-at c.args.clauses.now c.args.chains.now c.requires.store.right

pub needed_for-requires-clause-last : goal.needed_for-requires-clause-last
needed_for-requires-clause-last c =
    subst (NameBelow (length c.args.chains.now)) (sym c.deref.ensures.value)
    (subst (λ (k : ℕ). NameBelow k c.args.last.now.chain.items) (sym c.requires.store.right.sized) (chain-below c.args.clauses.now c.args.last.now.chain.items [] c.requires.last))

pub numbering_of-requires-clause-closed : goal.numbering_of-requires-clause-closed
numbering_of-requires-clause-closed c = subst (λ (xs : List Bool). AreChainsMarked c.args.chains.now xs 0) (sym c.deref-2.ensures.value) c.in_ok-needed.ensures.closed

pub take-taken-requires-clause-chain : goal.take-taken-requires-clause-chain
take-taken-requires-clause-chain c =
    subst (NameBelow (length c.in_ok-numbering.numbering.numbers.items)) (sym c.deref-3.ensures.value)
    (subst (λ (k : ℕ). NameBelow k c.args.last.now.chain.items) (sym c.in_ok-numbering.ensures.sized) (chain-below c.args.clauses.now c.args.last.now.chain.items [] c.requires.last))

pub returns-in-Ok : goal.returns-in-Ok
returns-in-Ok c =
    let old = c.in_ok-numbering.numbering in
    let new = c.take-taken.new.self in
    let ns = c.args.last.now.chain.items in
    let needed = c.deref-2.result.now in
    let read : IsRead old new [] ns true c.args.count = subst (λ (x : List ℤ). IsRead old new x ns true c.args.count) (c.literals.ensures.value ∙ c.requires.empty) (subst (λ (xs : List ℕ). IsRead old new c.literals.result.now xs true c.args.count) c.deref-3.ensures.value c.in-Ok.ensures) in
    numbering-ends c.args.clauses.now c.args.chains.now needed c.requires.store.right (subst (λ (xs : List Bool). AreChainsMarked c.args.chains.now xs 0) (sym c.deref-2.ensures.value) c.in_ok-needed.ensures.closed)
    c.args.count old new ns c.in_ok-numbering.ensures (subst (λ (xs : List Bool). AreMarked xs ns) (sym c.deref-2.ensures.value) (subst (AreMarked c.in_ok-needed.needed.items) c.deref.ensures.value c.in_ok-needed.ensures.named)) c.requires.last read
