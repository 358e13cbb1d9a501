use Rattle.std.proofs.Common.{◌≡◌, ◌+◌, ◌++◌, ◌∷◌, [], suc, ◌∙◌, ap, sym, subst, arith, List, ℕ, ℤ, Some}
use Rattle.mcs_base.proofs.Each.{all_get}
use Rattle.mcs_trace.specs.Clauses.{IsClause}
use Rattle.mcs_trace.specs.Traces.{IsChainResolvent, numbered_clause}
use Rattle.mcs_engine.proofs.KnownLemmas.{chain-start}
use Rattle.mcs_sat.proofs.flatten.flat_of.Goals as goal

pub loop-init : goal.loop-init
loop-init c =
    let known : List (List ℤ) = c.args.clauses.now in
    let row : List ℤ = c.row.result.now in
    let next : c.args.index + 1 ≡ suc c.args.index = omega arith in
    let here : numbered_clause known (c.args.index + 1) ≡ Some row = ap (numbered_clause known) next ∙ c.row.ensures in
    let literals : c.extend_from_slice.new.self.items ≡ row = c.in_ok-extend_from_slice.ensures.items ∙ ap (λ (xs : List ℤ). xs ++ row) c.new.ensures.items in
    let chain : c.push.new.self.items ≡ (c.args.index + 1) ∷ [] = c.in_ok-push.ensures.items ∙ ap (λ (ns : List ℕ). ns ++ (c.args.index + 1) ∷ []) c.new-2.ensures.items in
    record {
      clause = subst IsClause (sym literals) (all_get IsClause known c.args.index row c.requires.clauses c.row.ensures);
      right = subst (IsChainResolvent known c.push.new.self.items) (sym literals) (subst (λ (ns : List ℕ). IsChainResolvent known ns row) (sym chain) (chain-start known (c.args.index + 1) row here));
    }
