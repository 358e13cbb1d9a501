use Rattle.std.proofs.Common.{◌≡◌, ℕ, ℤ, pos, get_or, subst, w64, to_z, of_z, to_z-of_z}
use Rattle.mcs_base.proofs.Among.{among_at}
use Rattle.mcs_trace.proofs.OrderLemmas.{fits_literal, literal_at}
use Rattle.mcs_engine.specs.Trails.{IsOn}
use Rattle.mcs_search.proofs.adding.is_spared.Goals as goal

pub returns-then-is_true : goal.returns-then-is_true
returns-then-is_true c = λ yes.
    let i : ℕ = c.loop-literal.literal-index in
    let x : ℤ = get_or c.args.literals.now i (pos 0) in
    let read : to_z w64 (of_z w64 x) ≡ x = to_z-of_z (fits_literal x (literal_at c.args.literals.now i c.requires.0 c.loop-literal-test.true)) in
    (c.if-literals-lt2.false, (x, among_at c.args.literals.now i (pos 0) c.loop-literal-test.true, subst (IsOn c.args.trail.now.entries.items) read (c.is_true.ensures.0 c.if-is_true.true)))
