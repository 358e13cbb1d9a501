use Rattle.mcs_grammar.specs.Written.{IsWrittenBridge}
use Rattle.mcs_grammar.specs.Entries.{bridge_entries}
use Rattle.mcs_script.proofs.OneReading.{one-first-fault}
use Rattle.mcs_script.proofs.laws.rules_have_one_fault.Goals as goal

pub returns : goal.returns
returns c names bytes at number number' limit limit' offset offset' h k = one-first-fault bytes IsWrittenBridge bridge_entries names at number number' limit limit' offset offset' h k
