use Rattle.std.proofs.Common.{◌≡◌, ◌+◌, ◌*◌, ◌^◌, ◌<◌}
use Rattle.mcs_sets.specs.Sets.{has, such_that}
use Rattle.mcs_base.proofs.pair.part.Given as goal

-- (each look at the marks tells that they are in range)
abbrev pub invariant-loop-rule : goal.invariant-loop-rule
invariant-loop-rule l = record {
  rules : l.rules ≡ such_that l.rule (λ r. has l.marks (2 * r + l.offset));
  in_range : 0 < l.rule → l.marks < 2 ^ 128;
}
