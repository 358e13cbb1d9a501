use Rattle.std.proofs.Common.{refl}
use Rattle.mcs_script.specs.Edits.{Lists}
use Rattle.mcs_script.proofs.EditSpans.{listed-told, listed-spelled}
use Rattle.mcs_script.proofs.reading.read_listed.Goals as goal

pub returns-in-Ok : goal.returns-in-Ok
returns-in-Ok c start word = (record { rules = refl; written = Lists; spelled = listed-spelled c.args.rules c.args.bytes.now start c.args.at word c.in-Ok.end c.in-Ok.ensures.period; says = tt }, tt)

pub returns-in-Err : goal.returns-in-Err
returns-in-Err c start word = (tt, listed-told c.args.rules c.args.bytes.now start c.args.at word c.in-Err.offset c.in-Err.ensures.other c.at.result c.at.ensures)
