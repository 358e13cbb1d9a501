use Rattle.std.proofs.Common.{◌≡◌, map, take}
use Rattle.mcs_system.specs.Seen.{formula_of}
use Rattle.mcs_classical.specs.Assumptions.{assumed}
use Rattle.mcs_classical.proofs.assumptions.assumed.Given as goal

abbrev pub invariant-loop-assumption : goal.invariant-loop-assumption
invariant-loop-assumption l = map (λ f. formula_of f.now) l.formulas.items ≡ assumed l.set (take l.assumption-index l.assumptions)
