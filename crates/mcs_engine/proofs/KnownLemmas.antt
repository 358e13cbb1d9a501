-- Numbered clauses and chains, one more at the end.
use Rattle.std.proofs.Common.{◌≡◌, ℕ, ◌+◌, ◌-◌, zero, suc, ◌<◌, List, [], ◌∷◌, ◌++◌, refl, sym, ap, ◌∙◌, subst, arith, ℤ, length, Some, slice_get}
use Rattle.std.specs.List.{AllByRecursion}
use Rattle.std.proofs.lemmas.Option.{slice_get_within}
use Rattle.mcs_base.proofs.Lists.{slice_get_kept}
use Rattle.mcs_trace.specs.Clauses.{IsClause}
use Rattle.mcs_trace.specs.Resolution.{IsResolvent}
use Rattle.mcs_trace.specs.Traces.{numbered_clause, ResolvesTo, IsChainResolvent}
use Rattle.mcs_trace.proofs.StepLemmas.{told_steps}

-- ---- numbered clauses
pub numbered-more : (known more : List (List ℤ)) (n : ℕ) (c : List ℤ) → numbered_clause known n ≡ Some c → numbered_clause (known ++ more) n ≡ Some c
numbered-more known more zero c e = absurd (cc)
numbered-more known more (suc n) c e = slice_get_kept known more n c e

-- the row of a numbered clause
pub numbered-row : (known : List (List ℤ)) (n : ℕ) (c : List ℤ) → numbered_clause known n ≡ Some c → (0 < n) × (n - 1 < length known) × (slice_get known (n - 1) ≡ Some c)
numbered-row known zero c e = absurd (cc)
numbered-row known (suc n) c e =
    let less = slice_get_within known n c e in
    let at : suc n - 1 ≡ n = omega arith in
    (omega arith, omega arith, ap (slice_get known) at ∙ e)

-- what the row of a number is
pub numbered-is : (known : List (List ℤ)) (n : ℕ) (c d : List ℤ) → numbered_clause known n ≡ Some c → slice_get known (n - 1) ≡ Some d → c ≡ d
numbered-is known n c d e at = let (some, within, is) = numbered-row known n c e in let both : Some c ≡ Some d = sym is ∙ at in cc

-- ---- chains
pub chain-start : (known : List (List ℤ)) (n : ℕ) (c : List ℤ) → numbered_clause known n ≡ Some c → IsChainResolvent known (n ∷ []) c
chain-start known n c e = (c, e, refl)

resolves-push : (known : List (List ℤ)) (a : List ℤ) (ns : List ℕ) (c d m : List ℤ) (n : ℕ) → ResolvesTo known a ns c → numbered_clause known n ≡ Some d → IsResolvent c d m → ResolvesTo known a (ns ++ n ∷ []) m
resolves-push known a [] c d m n h e r = (d, e, (m, subst (λ (x : List ℤ). IsResolvent x d m) (sym h) r, refl))
resolves-push known a (k ∷ ns) c d m n (x, is, (b, r', rest)) e r = (x, is, (b, r', resolves-push known b ns c d m n rest e r))

pub chain-push : (known : List (List ℤ)) (ns : List ℕ) (c d m : List ℤ) (n : ℕ) → IsChainResolvent known ns c → numbered_clause known n ≡ Some d → IsResolvent c d m → IsChainResolvent known (ns ++ n ∷ []) m
chain-push known [] c d m n h e r = absurd h
chain-push known (k ∷ ns) c d m n (first, is, rest) e r = (first, is, resolves-push known first ns c d m n rest e r)

pub chain-clause : (known : List (List ℤ)) (ns : List ℕ) (c : List ℤ) → AllByRecursion IsClause known → IsChainResolvent known ns c → IsClause c
chain-clause known ns c all right = (told_steps known (length known + 1) (record { clause = c; chain = ns } ∷ []) all (omega arith) (right, tt)).0.clause
