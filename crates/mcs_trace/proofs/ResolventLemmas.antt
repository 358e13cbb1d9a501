-- Resolvents are clauses, there is at most one, and it holds where both clauses do.
use Rattle.std.proofs.Common.{◌≡◌, ◌<◌, ℕ, Bool, true, false, not, List, inl, inr, sym, ap, ◌∙◌, subst, arith, ℤ, pos, negsuc, zero, suc, neg_ℤ, true≢false}
use Rattle.std.specs.Int.RustNames.{unsigned_abs}
use Rattle.std.specs.List.{AllByRecursion}
use Rattle.mcs_base.specs.Listings.{IsAmong, IsListing}
use Rattle.mcs_base.proofs.ListingLemmas.{all_among, all_from_among, same_listing}
use Rattle.mcs_base.proofs.Numbers.{cases_eq_ℤ}
use Rattle.mcs_base.proofs.Among.{any_get, among_get, among_any}
use Rattle.mcs_base.proofs.Clausal.{HasNoZero}
use Rattle.mcs_base.proofs.Each.{all_weaker}
use Rattle.mcs_trace.specs.Clauses.{IsLiteral, LiteralBefore, IsClause, literal_holds, clause_holds}
use Rattle.mcs_trace.specs.Resolution.{IsLeft, IsResolvent}
use Rattle.mcs_trace.proofs.OrderLemmas.{before_asymmetric}

pub IsLeft-literal : (c d : List ℤ) (p k : ℤ) → IsClause c → IsClause d → IsLeft c d p k → IsLiteral k
IsLeft-literal c d p k is is' (inl (among, _)) = all_among IsLiteral c k is.0 among
IsLeft-literal c d p k is is' (inr (among, _)) = all_among IsLiteral d k is'.0 among

pub IsResolvent-clause : (c d e : List ℤ) → IsClause c → IsClause d → IsResolvent c d e → IsClause e
IsResolvent-clause c d e is is' r =
    (all_from_among IsLiteral e (λ k among. IsLeft-literal c d r.literal k is is' ((r.left.exactly k).0 among)), r.left.ascending)

pub same_resolvent : (c d e e' : List ℤ) → IsResolvent c d e → IsResolvent c d e' → e ≡ e'
same_resolvent c d e e' r r' =
    let same : r.literal ≡ r'.literal = r'.clash.only r.literal r.clash.in_first r.clash.in_second in
    same_listing LiteralBefore before_asymmetric (IsLeft c d r'.literal) e e' (subst (λ (p : ℤ). IsListing (IsLeft c d p) LiteralBefore e) same r.left) r'.left

-- ---- truth
holds-some : (v : ℕ → Bool) (c : List ℤ) → clause_holds v c ≡ true → (k : ℤ) × IsAmong k c × (literal_holds v k ≡ true)
holds-some v c h = let (i, k, is, holds) = any_get (literal_holds v) c h in (k, among_get k c i is, holds)

pub clause-no_zero : (c : List ℤ) → AllByRecursion IsLiteral c → HasNoZero c
clause-no_zero = all_weaker IsLiteral (λ k. 0 < unsigned_abs k) (λ k is. is.0)

IsLeft-size : (c d : List ℤ) (p k : ℤ) → HasNoZero c → HasNoZero d → IsLeft c d p k → 0 < unsigned_abs k
IsLeft-size c d p k is is' (inl (among, _)) = all_among (λ k. 0 < unsigned_abs k) c k is among
IsLeft-size c d p k is is' (inr (among, _)) = all_among (λ k. 0 < unsigned_abs k) d k is' among

pub IsResolvent-no_zero : (c d e : List ℤ) → HasNoZero c → HasNoZero d → IsResolvent c d e → HasNoZero e
IsResolvent-no_zero c d e is is' r = all_from_among (λ k. 0 < unsigned_abs k) e (λ k among. IsLeft-size c d r.literal k is is' ((r.left.exactly k).0 among))

not_both : (v : ℕ → Bool) (k : ℤ) → 0 < unsigned_abs k → literal_holds v k ≡ true → literal_holds v (neg_ℤ k) ≡ true → ⊥
not_both v (pos zero) is h h' = absurd (omega (arith, is))
not_both v (pos (suc n)) is h h' = at (v (suc n)) h (ap (λ m. not (v m)) (omega arith) ∙ h')
  where
    at : (b : Bool) → b ≡ true → not b ≡ true → ⊥
    at true e e' = true≢false (sym e')
    at false e e' = true≢false (sym e)
not_both v (negsuc n) is h h' = at (v (suc n)) (ap (λ m. not (v m)) (omega arith) ∙ h) h'
  where
    at : (b : Bool) → not b ≡ true → b ≡ true → ⊥
    at true e e' = true≢false (sym e)
    at false e e' = true≢false (sym e')

-- the resolvent of two clauses that hold does too
pub IsResolvent-holds : (v : ℕ → Bool) (c d e : List ℤ) → HasNoZero c → IsResolvent c d e → clause_holds v c ≡ true → clause_holds v d ≡ true → clause_holds v e ≡ true
IsResolvent-holds v c d e is r h h' = at (holds-some v c h) (holds-some v d h')
  where
    at : (k : ℤ) × IsAmong k c × (literal_holds v k ≡ true) → (k : ℤ) × IsAmong k d × (literal_holds v k ≡ true) → clause_holds v e ≡ true
    at (k, among, holds) (l, among', holds') = elim (cases_eq_ℤ k r.literal) [
      | inr other ↦ among_any (literal_holds v) e k ((r.left.exactly k).1 (inl (among, other))) holds
      | inl same ↦ elim (cases_eq_ℤ l (neg_ℤ r.literal)) [
        | inr other' ↦ among_any (literal_holds v) e l ((r.left.exactly l).1 (inr (among', other'))) holds'
        | inl same' ↦ absurd (not_both v r.literal (all_among (λ k. 0 < unsigned_abs k) c r.literal is r.clash.in_first) (ap (literal_holds v) (sym same) ∙ holds) (ap (literal_holds v) (sym same') ∙ holds'))
      ]
    ]
