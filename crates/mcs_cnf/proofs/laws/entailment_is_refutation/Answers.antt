use Rattle.mcs_cnf.proofs.EntailmentLemmas.{refutation}
use Rattle.mcs_cnf.proofs.laws.entailment_is_refutation.Goals as goal

pub returns : goal.returns
returns c = refutation
