use Rattle.std.proofs.Common.{rules}
use Rattle.std.proofs.lemmas.List.Sorted.{IsPartitionPoint-from_clause}
use Rattle.mcs_table.specs.Partners.{is_below}
use Rattle.mcs_table.proofs.PartnerLemmas.{parted_below}
use Rattle.mcs_table.proofs.partners.end_below.Goals as goal

pub returns-clause-point : goal.returns-clause-point
returns-clause-point c = IsPartitionPoint-from_clause (is_below c.args.scope c.args.most) _ _ c.partition_point.ensures.partitioned (parted_below c.args.scope c.args.most _ c.requires) (λ a r q k. search rules)
