use Rattle.mcs_language.proofs.ProgressLemmas.{up-to-none}
use Rattle.mcs_language.proofs.reading.Reading.new.Goals as goal

pub returns : goal.returns
returns c ts = up-to-none c.in_ok-reader.reader c.new-2.result ts c.in_ok-reader.ensures.read c.in_ok-reader.ensures.context c.in_ok-reader.ensures.target c.new-2.ensures
