use Rattle.std.proofs.Common.{rules}
use Rattle.std.proofs.lemmas.List.Sorted.{IsPartitionPoint-from_clause}
use Rattle.mcs_check.specs.Certified.{is_set_before}
use Rattle.mcs_check.proofs.CertifiedLemmas.{parted}
use Rattle.mcs_check.proofs.certified.place_of.Goals as goal

pub returns-clause-point : goal.returns-clause-point
returns-clause-point c = IsPartitionPoint-from_clause (is_set_before c.args.active) _ _ c.partition_point.ensures.partitioned (parted c.args.answers.now c.requires c.args.active) (λ a r q k. search rules)
