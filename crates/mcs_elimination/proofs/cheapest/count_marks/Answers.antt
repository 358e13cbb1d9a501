use Rattle.std.proofs.Common.{ap, length, arith}
use Rattle.std.proofs.lemmas.List.{length-map}
use Rattle.mcs_system.specs.Seen.{bridge_of}
use Rattle.mcs_elimination.proofs.cheapest.count_marks.Goals as goal

pub returns-clause-count : goal.returns-clause-count
returns-clause-count c = omega (arith, length-map c.bridges.result.now bridge_of, ap length c.bridges.ensures.value)
