use Rattle.std.proofs.Common.{◌≡◌, ℤ, get_or, pos, refl, ap, subst, ◌∙◌, arith, rules, w64, to_z, of_z, to_z-of_z, FitsSigned}
use Rattle.mcs_trace.specs.Clauses.{place, IsLiteral}
use Rattle.mcs_trace.proofs.OrderLemmas.{clause_after-more}
use Rattle.mcs_trace.proofs.clause.is_clause.Goals as goal

pub loop-literal-preserved : goal.loop-literal-preserved
loop-literal-preserved c =
    let l : ℤ = get_or c.args.lits.now c.loop-literal.literal-index (pos 0) in
    let fits : FitsSigned w64 l = search rules in
    let same : to_z w64 (of_z w64 l) ≡ l = to_z-of_z fits in
    let is : IsLiteral l = subst IsLiteral same (c.if-not-is_literal.ensures.0 refl) in
    let h = clause_after-more c.loop-literal.last c.place-last.result c.args.lits.now c.loop-literal.literal-index (pos 0) c.loop-literal-test.true is (omega arith) (c.place-last.ensures ∙ ap place same) in
    (λ w. h.0 (c.loop-literal.invariant.0 w), λ w. c.loop-literal.invariant.1 (h.1 w))
