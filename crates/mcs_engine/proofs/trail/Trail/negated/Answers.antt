use Rattle.std.proofs.Common.{◌≡◌, ◌<◌, ◌^◌, ℤ, pos, neg_ℤ, ◌-ℤ◌, unsigned_abs, FitsSigned, sym, ap, ◌∙◌, subst, arith, w64, to_z, of_z, to_z-of_z}
use Rattle.mcs_base.proofs.Numbers.{unsigned_abs-neg_ℤ, zero-minus}
use Rattle.mcs_trace.specs.Clauses.{IsLiteral}
use Rattle.mcs_trace.proofs.OrderLemmas.{fits_literal, turned}
use Rattle.mcs_engine.specs.Trails.{literal_at}
use Rattle.mcs_engine.proofs.TrailLemmas.{literal-read}
use Rattle.mcs_engine.proofs.trail.Trail.negated.Goals as goal

neg_fits : (l : ℤ) → IsLiteral l → FitsSigned w64 (pos 0 -ℤ to_z w64 (of_z w64 l))
neg_fits l is =
    let read : to_z w64 (of_z w64 l) ≡ l = to_z-of_z (fits_literal l is) in
    let e : pos 0 -ℤ to_z w64 (of_z w64 l) ≡ neg_ℤ l = ap (λ (k : ℤ). pos 0 -ℤ k) read ∙ zero-minus l in
    let bound : unsigned_abs (neg_ℤ l) < 2 ^ 63 = omega (arith, unsigned_abs-neg_ℤ l, is.1) in
    let some : 0 < unsigned_abs (neg_ℤ l) = omega (arith, unsigned_abs-neg_ℤ l, is.0) in
    subst (FitsSigned w64) (sym e) (fits_literal (neg_ℤ l) (some, bound))

pub overflow_sub-result : goal.overflow_sub-result
overflow_sub-result c =
    let read : c.index.result.now.literal ≡ literal_at c.args.self.now.entries.items c.args.place = literal-read c.args.self.now.entries.items c.args.place c.index.result.now c.requires c.index.ensures in
    neg_fits c.index.result.now.literal (subst IsLiteral (sym read) (c.args.self.now.placed c.args.place c.requires).0)

pub returns : goal.returns
returns c =
    let read : c.index.result.now.literal ≡ literal_at c.args.self.now.entries.items c.args.place = literal-read c.args.self.now.entries.items c.args.place c.index.result.now c.requires c.index.ensures in
    turned c.index.result.now.literal (subst IsLiteral (sym read) (c.args.self.now.placed c.args.place c.requires).0) ∙ ap neg_ℤ read
