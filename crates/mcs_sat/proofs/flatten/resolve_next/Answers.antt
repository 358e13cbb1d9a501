use Rattle.std.proofs.Common.{◌≡◌, ◌+◌, ◌∙◌, ap, sym, suc, Vec, Global, List, ℕ, ℤ, Bool, true, false, true≢false, Some, subst, arith}
use Rattle.std.specs.Bool.{MatchBool}
use Rattle.mcs_trace.specs.Clauses.{IsClause}
use Rattle.mcs_trace.specs.Resolution.{IsResolvent}
use Rattle.mcs_trace.specs.Traces.{IsChainResolvent, numbered_clause}
use Rattle.mcs_engine.proofs.KnownLemmas.{chain-push}
use Rattle.mcs_sat.proofs.flatten.resolve_next.Goals as goal

pub returns : goal.returns
returns c =
    let known : List (List ℤ) = c.args.clauses.now in
    let next : c.in-Some.next + 1 ≡ suc c.in-Some.next = omega arith in
    let here : numbered_clause known (c.in-Some.next + 1) ≡ Some c.row.result.now = ap (numbered_clause known) next ∙ c.row.ensures in
    let out : Vec ℤ Global = c.resolve.new.out in
    record {
      clause = subst (λ (v : Vec ℤ Global). IsClause v.items) (sym c.swap.ensures.x_after) (c.in_ok-resolve.ensures.clause c.if-not-branch.false);
      right = subst (λ (v : Vec ℤ Global). IsChainResolvent known c.push.new.self.items v.items) (sym c.swap.ensures.x_after)
          (subst (λ (ns : List ℕ). IsChainResolvent known ns out.items) (sym c.in_ok-push.ensures.items) (chain-push known c.args.flat.now.chain.items c.args.flat.now.literals.items c.row.result.now out.items (c.in-Some.next + 1) c.requires.flat.right here (subst (λ (xs : List ℤ). IsResolvent xs c.row.result.now out.items) c.deref-2.ensures.value (matched c.in_ok-resolve.field-0 _ _ c.if-not-branch.false c.in_ok-resolve.ensures.resolvent))));
    }
  where
    matched : (b : Bool) (P Q : Type 0) → b ≡ true → MatchBool b P Q → P
    matched true P Q e h = h
    matched false P Q e h = absurd (true≢false (sym e))
