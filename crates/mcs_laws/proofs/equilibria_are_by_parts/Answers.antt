use Rattle.mcs_laws.proofs.Projections.{parts_of, from_parts}
use Rattle.mcs_laws.proofs.equilibria_are_by_parts.Goals as goal

pub returns : goal.returns
returns c m r1 r2 σ = (parts_of m r1 r2 σ, λ h. from_parts m r1 r2 σ h.0 h.1)
