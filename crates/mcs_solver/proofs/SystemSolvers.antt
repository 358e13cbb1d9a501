-- The solvers of a system, one for each of its contexts, which keep their answers or not.
use Rattle.std.proofs.Common.{◌≡◌, ℕ, ◌+◌, ◌<◌, Bool, List, [], map, length, Some, slice_get, sym, ap, ◌∙◌, arith}
use Rattle.std.proofs.lemmas.List.FromFn.{length-map-range_with_len, get_or-map-range_with_len}
use Rattle.std.proofs.lemmas.Option.{slice_get_within, same_Some}
use Rattle.std.specs.List.{range_with_len}
use Rattle.mcs_base.proofs.Lists.{map_slice_get, slice_get_read_as}
use Rattle.mcs_system.specs.Plain.{System}
use Rattle.mcs_states.specs.Oracles.{OracleState}
use Rattle.mcs_solver.specs.Solvers.{solver_with}

module _ (keep : Bool) (m : System) (os : List OracleState) (are : os ≡ map (λ i. solver_with keep m i []) (range_with_len 0 (length m.contexts))) where
  pub solvers_each : length os ≡ length m.contexts
  solvers_each = ap length are ∙ length-map-range_with_len (λ i. solver_with keep m i []) 0 (length m.contexts)

  pub solver_at : (i : ℕ) (o : OracleState) → slice_get os i ≡ Some o → o ≡ solver_with keep m i []
  solver_at i o is =
      let less : i < length m.contexts = omega (arith, slice_get_within os i o is, solvers_each) in
      let zeroth : 0 + i ≡ i = omega arith in
      let here = slice_get_read_as os (map (λ k. solver_with keep m k []) (range_with_len 0 (length m.contexts))) i (solver_with keep m i []) (sym are)
      (omega (arith, less, length-map-range_with_len (λ k. solver_with keep m k []) 0 (length m.contexts)))
      (sym (get_or-map-range_with_len (λ k. solver_with keep m k []) 0 (length m.contexts) i i (solver_with keep m i []) less zeroth)) in
      same_Some _ _ (sym is ∙ here)

  pub solver_seen : (i : ℕ) (o : OracleState) → slice_get (map (λ (x : OracleState). x) os) i ≡ Some o → o ≡ solver_with keep m i []
  solver_seen i o is = let (x, at, same) = map_slice_get (λ (x : OracleState). x) os i o is in sym same ∙ solver_at i x at
