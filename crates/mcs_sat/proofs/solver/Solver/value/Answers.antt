use Rattle.std.proofs.Common.{◌≡◌, ℤ, neg_ℤ, List, sym, subst, unsigned_abs, MatchOption, w64, to_z, of_z, to_z-of_z}
use Rattle.std.specs.Bool.{MatchBool}
use Rattle.mcs_base.specs.Listings.{IsAmong}
use Rattle.mcs_trace.proofs.OrderLemmas.{fits_literal}
use Rattle.mcs_engine.specs.declared.trail.Entry.{Entry}
use Rattle.mcs_sat.specs.Solvers.{HasNoValue, IsSolver}
use Rattle.mcs_engine.specs.Trails.{IsOn, StandsNowhere}
use Rattle.mcs_sat.proofs.UnitRunLemmas.{value-seen}
use Rattle.mcs_sat.proofs.SolverLemmas.{is-solver, trues-are}
use Rattle.mcs_sat.proofs.solver.Solver.value.Goals as goal

pub returns-clause-value : goal.returns-clause-value
returns-clause-value c =
    let es : List Entry = c.self.inside.state.trail.entries.items in
    let l : ℤ = c.args.literal in
    let read : to_z w64 (of_z w64 l) ≡ l = to_z-of_z (fits_literal l c.requires.literal) in
    subst (λ (x : List ℤ). MatchOption c.value.result (HasNoValue x l) (λ v. MatchBool v (IsAmong l x) (IsAmong (neg_ℤ l) x))) (sym (trues-are c.self.inside.state c.args.self.now c.self.view_is))
    (value-seen es l c.value.result (subst (λ (k : ℤ). MatchOption c.value.result (StandsNowhere es (unsigned_abs k)) (λ v. MatchBool v (IsOn es k) (IsOn es (neg_ℤ k)))) read c.value.ensures))

pub returns-clause-kept : goal.returns-clause-kept
returns-clause-kept c = subst IsSolver c.self.view_is (is-solver c.self.inside.state c.self.invariant.state)
