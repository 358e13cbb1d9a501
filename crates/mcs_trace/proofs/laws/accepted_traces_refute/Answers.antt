use Rattle.mcs_trace.proofs.TraceLemmas.{refutes}
use Rattle.mcs_trace.proofs.laws.accepted_traces_refute.Goals as goal

pub returns : goal.returns
returns c = refutes
