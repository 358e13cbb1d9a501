use Rattle.std.proofs.Common.{rules}
use Rattle.std.proofs.lemmas.List.Sorted.{IsPartitionPoint-from_clause}
use Rattle.mcs_program.proofs.ViewLemmas.{comes_before, parted, EndsAt, ends_before, ends_after}
use Rattle.mcs_program.proofs.view.place_of.Goals as goal

pub returns-clause-before : goal.returns-clause-before
returns-clause-before c =
    let point : EndsAt c.args.view c.args.views.now c.partition_point.result =
    IsPartitionPoint-from_clause (comes_before c.args.view) _ _ c.partition_point.ensures.partitioned (parted c.args.view c.args.views.now c.requires) (λ a r q k. search rules) in
    ends_before c.args.view c.args.views.now c.partition_point.result point

pub returns-clause-after : goal.returns-clause-after
returns-clause-after c =
    let point : EndsAt c.args.view c.args.views.now c.partition_point.result =
    IsPartitionPoint-from_clause (comes_before c.args.view) _ _ c.partition_point.ensures.partitioned (parted c.args.view c.args.views.now c.requires) (λ a r q k. search rules) in
    ends_after c.args.view c.args.views.now c.partition_point.result point
