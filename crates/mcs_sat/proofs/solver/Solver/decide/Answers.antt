use Rattle.std.proofs.Common.{◌≡◌, ℤ, List, sym, ap, subst, arith, w64, to_z, of_z, to_z-of_z}
use Rattle.std.proofs.lemmas.Result.{on_ok_weaker}
use Rattle.mcs_trace.proofs.OrderLemmas.{fits_literal}
use Rattle.mcs_engine.specs.declared.trail.Entry.{Entry}
use Rattle.mcs_sat.specs.Solvers.{HasNoValue, SolverView}
use Rattle.mcs_engine.specs.States.{IsDecided}
use Rattle.mcs_engine.specs.Trails.{IsFree}
use Rattle.mcs_sat.proofs.UnitRunLemmas.{free-nowhere}
use Rattle.mcs_sat.proofs.SolverLemmas.{trues-are, view-decided}
use Rattle.mcs_sat.proofs.solver.Solver.decide.Goals as goal

pub decide-requires-clause-free : goal.decide-requires-clause-free
decide-requires-clause-free c =
    let es : List Entry = c.self.inside.state.trail.entries.items in
    let l : ℤ = c.args.literal in
    let read : to_z w64 (of_z w64 l) ≡ l = to_z-of_z (fits_literal l c.requires.literal) in
    let some = c.self.inside.state.trail.some in
    subst (IsFree es c.self.inside.state.trail.positions.items) (sym read) (
      c.requires.literal,
      omega (arith, c.requires.within, ap (λ (v : SolverView). v.vars) c.self.view_is),
      free-nowhere es l (subst (λ (x : List ℤ). HasNoValue x l) (trues-are c.self.inside.state c.args.self.now c.self.view_is) c.requires.free),
    )

pub returns-clause-ok : goal.returns-clause-ok
returns-clause-ok c =
    let l : ℤ = c.args.literal in
    let read : to_z w64 (of_z w64 l) ≡ l = to_z-of_z (fits_literal l c.requires.literal) in
    on_ok_weaker c.decide.result (λ h. view-decided c.self.inside.state c.decide.new.state c.args.self.now l c.self.view_is c.decide.ensures.same (subst (IsDecided c.self.inside.state c.decide.new.state) read h)) c.decide.ensures.decided
