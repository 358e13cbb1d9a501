use Rattle.std.proofs.Common.{◌∙◌, ap}
use Rattle.mcs_session.specs.Tables.{texts_in}
use Rattle.mcs_session.proofs.TableLemmas.{added}
use Rattle.mcs_session.proofs.table.add.Goals as goal

pub returns : goal.returns
returns c = ap texts_in c.in-Ok.ensures.keys ∙ added c.args.text c.args.table.now.keys c.requires.new
