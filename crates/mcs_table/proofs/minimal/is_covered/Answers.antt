use Rattle.std.proofs.Common.{arith, refl, sym, ◌∙◌, true≢false}
use Rattle.mcs_table.proofs.MinimalLemmas.{not_here, other_state, found_here, states_differ, states_same}
use Rattle.mcs_table.proofs.minimal.is_covered.Goals as goal

pub returns-then-ne : goal.returns-then-ne
returns-then-ne c =
    let none = other_state c.args.kept.now c.args.row.now c.loop-i.i c.index-kept-i.result (omega arith) (omega arith) c.index-kept-i.is c.loop-i.invariant c.requires.scope c.requires.ascending c.requires.after (states_differ c.index-kept-i.result.state c.args.row.now.state (sym c.ne.ensures ∙ c.if-ne.true)) in
    (λ e. absurd (true≢false (sym e)), λ h. absurd (none h))

pub returns-then-within : goal.returns-then-within
returns-then-within c =
    let found = found_here c.args.kept.now c.args.row.now c.loop-i.i c.index-kept-i.result (omega arith) (omega arith) c.index-kept-i.is c.loop-i.invariant (states_same c.index-kept-i.result.state c.args.row.now.state (sym c.ne.ensures ∙ c.if-ne.false)) (c.within.ensures.0 c.if-within.true) in
    (λ e. found, λ h. refl)

pub loop-i-preserved : goal.loop-i-preserved
loop-i-preserved c = not_here c.args.kept.now c.args.row.now c.loop-i.i c.index-kept-i.result (omega arith) (omega arith) c.index-kept-i.is c.loop-i.invariant (λ w. true≢false (sym (c.within.ensures.1 w) ∙ c.if-within.false))
