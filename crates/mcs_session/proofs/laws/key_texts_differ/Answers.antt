use Rattle.mcs_session.proofs.TextLemmas.{texts_differ}
use Rattle.mcs_session.proofs.laws.key_texts_differ.Goals as goal

pub returns : goal.returns
returns c = texts_differ
