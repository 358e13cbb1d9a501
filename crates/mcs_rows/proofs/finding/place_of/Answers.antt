use Rattle.std.proofs.Common.{rules}
use Rattle.std.proofs.lemmas.List.Sorted.{IsPartitionPoint-from_clause}
use Rattle.mcs_rows.specs.Finding.{is_question_before}
use Rattle.mcs_rows.proofs.FindingLemmas.{parted}
use Rattle.mcs_rows.proofs.finding.place_of.Goals as goal

pub returns-clause-point : goal.returns-clause-point
returns-clause-point c = IsPartitionPoint-from_clause (is_question_before c.args.question) _ _ c.partition_point.ensures.partitioned (parted c.args.answers.now c.requires c.args.question) (λ a r q k. search rules)
