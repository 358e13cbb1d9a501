use Rattle.std.proofs.Common.{refl}
use Rattle.mcs_script.proofs.EditSpans.{added-told, added-spelled}
use Rattle.mcs_script.proofs.reading.read_added.Goals as goal

pub returns-in-Ok : goal.returns-in-Ok
returns-in-Ok c start word = (added-spelled c.args.rules c.args.bytes.now start c.args.at word c.in-Ok.read c.in-Ok.ensures.rule _ refl refl refl, tt)

pub returns-in-Err : goal.returns-in-Err
returns-in-Err c start word = (tt, added-told c.args.rules c.args.bytes.now start c.args.at word c.in-Err.fault c.in-Err.ensures.fault)
