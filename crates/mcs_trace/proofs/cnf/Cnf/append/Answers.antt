use Rattle.std.proofs.Common.{◌≤◌, ℤ, ℕ, List, unsigned_abs, ap, subst, sym, arith}
use Rattle.std.specs.List.{AllByRecursion}
use Rattle.mcs_base.proofs.Each.{all_weaker, all_append}
use Rattle.mcs_trace.specs.Clauses.{ClauseList, IsClause, IsWithin}
use Rattle.mcs_trace.proofs.cnf.Cnf.append.Goals as goal

wider : (m n : ℕ) → m ≤ n → (c : List ℤ) → IsWithin m c → IsWithin n c
wider m n less c within = all_weaker (λ (l : ℤ). unsigned_abs l ≤ m) (λ (l : ℤ). unsigned_abs l ≤ n) (λ l h. omega (arith, less, h)) c within

pub invariant_of-self-2 : goal.invariant_of-self-2
invariant_of-self-2 c =
    let less : c.self.inside.vars ≤ c.other.inside.vars = omega (arith, c.requires, ap (λ (f : ClauseList). f.vars) c.self.view_is, ap (λ (f : ClauseList). f.vars) c.other.view_is) in (
      c.other.invariant.0,
      subst (AllByRecursion (λ (cl : List ℤ). IsClause cl × IsWithin c.other.inside.vars cl)) (sym c.in_ok-append.ensures.items)
          (all_append _ c.self.inside.clauses.items c.other.inside.clauses.items
          (all_weaker _ _ (λ cl h. (h.0, wider c.self.inside.vars c.other.inside.vars less cl h.1)) c.self.inside.clauses.items c.self.invariant.1)
          c.other.invariant.1),
    )
