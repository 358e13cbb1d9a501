use Rattle.mcs_words.proofs.JobLemmas.{asked_once}
use Rattle.mcs_words.proofs.laws.one_job.Goals as goal

pub returns : goal.returns
returns c = asked_once
