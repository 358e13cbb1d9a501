use Rattle.std.proofs.Common.{◌≡◌, ◌∙◌, ℕ, ℤ, pos, List, get_or, w64, to_z, of_z, to_z-of_z}
use Rattle.mcs_trace.proofs.OrderLemmas.{fits_literal, literal_at}
use Rattle.mcs_engine.proofs.MarkLemmas.{met-all, met-marked}
use Rattle.mcs_engine.proofs.marks.mark_all.Goals as goal

pub loop-literal-preserved : goal.loop-literal-preserved
loop-literal-preserved c =
    let lits : List ℤ = c.args.literals.now in
    let i : ℕ = c.loop-literal.literal-index in
    let x : ℤ = get_or lits i (pos 0) in
    let read : to_z w64 (of_z w64 x) ≡ x = to_z-of_z (fits_literal x (literal_at lits i c.requires.clause.0 c.loop-literal-test.true)) in
    met-marked c.args.trail.now.entries.items lits i (to_z w64 (of_z w64 x)) c.args.marks.now.items c.loop-literal.marks.items c.mark_one.new.marks.items c.loop-literal-test.true read c.loop-literal.invariant c.mark_one.ensures

pub mark_one-requires-clause-sized : goal.mark_one-requires-clause-sized
mark_one-requires-clause-sized c = c.loop-literal.invariant.sized ∙ c.requires.sized

pub returns : goal.returns
returns c = met-all c.args.trail.now.entries.items c.args.literals.now c.loop-literal.literal-index c.args.marks.now.items c.loop-literal.marks.items c.loop-literal-test.false c.loop-literal.invariant
