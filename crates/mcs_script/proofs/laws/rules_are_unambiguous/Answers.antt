use Rattle.mcs_grammar.specs.Written.{IsWrittenBridge}
use Rattle.mcs_grammar.specs.Entries.{bridge_entries}
use Rattle.mcs_script.proofs.OneReading.{one-spelled}
use Rattle.mcs_script.proofs.OneRule.{light, none-heavy, rule-same}
use Rattle.mcs_script.proofs.Periods.{alone-rule}
use Rattle.mcs_script.proofs.laws.rules_are_unambiguous.Goals as goal

pub returns : goal.returns
returns _ names bytes at end end' b c few h k =
    let one = one-spelled bytes IsWrittenBridge bridge_entries names alone-rule at end end' h.rule k.rule h.spelled k.spelled in
    let light' = light names h.rule (none-heavy IsWrittenBridge bridge_entries names bytes at end h.rule h.spelled) in
    let light'' = light names k.rule (none-heavy IsWrittenBridge bridge_entries names bytes at end' k.rule k.spelled) in
    (one.0, rule-same names few h.rule k.rule b c h.spelled.grammar k.spelled.grammar light' light'' one.1 h.says k.says)
