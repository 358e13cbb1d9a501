use Rattle.std.proofs.Common.{ℤ, ◌≡◌, subst, ◌↔◌, IsTrue, w64, to_z, of_z, to_z-of_z}
use Rattle.mcs_trace.proofs.OrderLemmas.{fits_literal}
use Rattle.mcs_engine.specs.Trails.{IsOn}
use Rattle.mcs_engine.proofs.TrailLemmas.{true-is_on}
use Rattle.mcs_engine.proofs.trail.Trail.is_true.Goals as goal

pub returns : goal.returns
returns c =
    let read : to_z w64 (of_z w64 c.args.literal) ≡ c.args.literal = to_z-of_z (fits_literal c.args.literal c.requires.0) in
    subst (λ (l : ℤ). IsTrue c.unwrap_or.result ↔ IsOn c.args.self.now.entries.items l) read
    (true-is_on c.args.self.now.entries.items c.args.self.now.positions.items (to_z w64 (of_z w64 c.args.literal)) c.value.result c.unwrap_or.result c.unwrap_or.ensures c.args.self.now.placed c.value.ensures)
