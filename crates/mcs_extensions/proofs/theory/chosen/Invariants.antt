use Rattle.std.proofs.Common.{◌≡◌, ◌++◌, drop, map}
use Rattle.mcs_system.specs.Seen.{default_of}
use Rattle.mcs_evidence.specs.Defaults.{defaults_at}
use Rattle.mcs_extensions.proofs.theory.chosen.Given as goal

abbrev pub invariant-loop-index : goal.invariant-loop-index
invariant-loop-index l = map (λ d. default_of d.now) l.chosen.items ++ defaults_at l.index (map (λ d. default_of d.now) (drop l.index l.defaults)) l.set ≡ defaults_at 0 (map (λ d. default_of d.now) l.defaults) l.set
