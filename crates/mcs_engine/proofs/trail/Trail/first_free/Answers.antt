use Rattle.std.proofs.Common.{◌≡◌, ◌<◌, ◌^◌, ℕ, unsigned_abs, ap, subst, arith, w64, to_z, MatchOption}
use Rattle.std.proofs.lemmas.Int.{to_z_pos}
use Rattle.mcs_engine.specs.Trails.{StandsAt, StandsNowhere}
use Rattle.mcs_engine.proofs.TrailLemmas.{assigned-more}
use Rattle.mcs_engine.proofs.trail.Trail.first_free.Goals as goal

pub loop-variable-init : goal.loop-variable-init
loop-variable-init c = λ v low less. absurd (omega arith)

pub loop-variable-preserved : goal.loop-variable-preserved
loop-variable-preserved c =
    let es = c.args.self.now.entries.items in
    let v : ℕ = c.loop-variable.variable in
    let bound : v < 2 ^ 63 = (let ok = c.args.self.now.positions.ok.0 in omega arith) in
    let size : unsigned_abs (to_z w64 v) ≡ v = ap unsigned_abs (to_z_pos w64 v bound) in
    assigned-more es c.args.from v c.position.result c.loop-variable.invariant c.if-is_none.ensures
    (subst (λ (x : ℕ). MatchOption c.position.result (StandsNowhere es x) (StandsAt es x)) size c.position.ensures)

pub returns : goal.returns
returns c = λ v low less. c.loop-variable.invariant v low (let ok = c.args.self.now.positions.ok.0 in omega arith)
