use Rattle.std.proofs.Common.{◌≡◌, map}
use Rattle.mcs_sets.specs.Sets.{such_that}
use Rattle.mcs_system.specs.Seen.{default_of}
use Rattle.mcs_default.specs.Known.{lacks_justs_at}
use Rattle.mcs_default.proofs.known.without_justs.Given as goal

abbrev pub invariant-loop-index : goal.invariant-loop-index
invariant-loop-index l = l.places ≡ such_that l.index (lacks_justs_at (map (λ d. default_of d.now) l.theory.defaults.now))
