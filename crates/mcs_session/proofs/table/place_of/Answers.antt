use Rattle.mcs_session.proofs.TableLemmas.{place}
use Rattle.mcs_session.proofs.table.place_of.Goals as goal

pub returns : goal.returns
returns c = rw c.get_index_of.ensures.index (place c.args.text.now c.args.table.now.keys)
