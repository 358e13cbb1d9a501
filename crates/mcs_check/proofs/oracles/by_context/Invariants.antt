use Rattle.std.proofs.Common.{◌<◌}
use Rattle.std.specs.List.{AllByRecursion}
use Rattle.std.specs.Vec.Iter.{into_iter_items}
use Rattle.mcs_check.specs.Judging.{AreSorted}
use Rattle.mcs_check.proofs.oracles.by_context.Given as goal

abbrev pub invariant-loop-answer : goal.invariant-loop-answer
invariant-loop-answer l = record {
  sorted : AreSorted l.contexts l.yielded l.lists.items;
  within : AllByRecursion (λ a. a.context < l.contexts) (into_iter_items l.answer-iterator);
}
