use Rattle.mcs_grammar.specs.Written.{IsWrittenBridge}
use Rattle.mcs_grammar.specs.Entries.{bridge_entries}
use Rattle.mcs_script.proofs.OneReading.{spelled-no-fault}
use Rattle.mcs_script.proofs.Periods.{alone-rule}
use Rattle.mcs_script.proofs.laws.spelled_rules_have_no_fault.Goals as goal

pub returns : goal.returns
returns c names bytes at end number limit offset b spelled h = spelled-no-fault bytes IsWrittenBridge bridge_entries names alone-rule at end number limit offset spelled.rule spelled.spelled h
