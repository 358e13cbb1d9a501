use Rattle.std.proofs.Common.{◌≡◌, ℕ, ◌<◌, ◌≤◌, ◌+◌, List, ℤ, unsigned_abs, length, Some, slice_get, ◌∙◌, ap, subst, arith}
use Rattle.mcs_base.proofs.Each.{all_get, all_weaker}
use Rattle.mcs_trace.specs.Clauses.{IsClause, IsWithin}
use Rattle.mcs_sat.proofs.solver.state_of.Goals as goal

pub add_watched-requires-clause-clauses : goal.add_watched-requires-clause-clauses
add_watched-requires-clause-clauses c = λ i clause at.
    let vars : ℕ = c.args.cnf.now.vars in
    let ps : List ℕ = c.in_ok-state.state.trail.positions.items in
    let size : length ps ≡ vars + 1 = c.in_ok-state.ensures.sized ∙ ap (λ (n : ℕ). n + 1) c.vars.ensures.value in
    let at' : slice_get c.args.cnf.now.clauses i ≡ Some clause = subst (λ (cs : List (List ℤ)). slice_get cs i ≡ Some clause) c.clauses.ensures.value at in
    let (is, within) = all_get (λ (k : List ℤ). IsClause k × IsWithin vars k) c.args.cnf.now.clauses i clause c.clauses.ensures.kept.1 at' in
    (is, all_weaker (λ (l : ℤ). unsigned_abs l ≤ vars) (λ (l : ℤ). unsigned_abs l < length ps) (λ l less. omega (arith, size)) clause within)
