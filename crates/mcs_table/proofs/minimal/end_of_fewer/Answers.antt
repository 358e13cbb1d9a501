use Rattle.std.proofs.Common.{rules}
use Rattle.std.proofs.lemmas.List.Sorted.{IsPartitionPoint-from_clause}
use Rattle.mcs_table.proofs.FewerLemmas.{has_fewer, parted_by_fewer, none_of_the_rest}
use Rattle.mcs_table.proofs.minimal.end_of_fewer.Goals as goal

pub returns-clause-rest : goal.returns-clause-rest
returns-clause-rest c =
    let row = c.args.row.now in
    none_of_the_rest row c.args.kept.now c.partition_point.result c.requires.after
    (IsPartitionPoint-from_clause (has_fewer row) _ _ c.partition_point.ensures.partitioned (parted_by_fewer row c.args.kept.now c.requires.ascending) (λ a r q k. search rules))
