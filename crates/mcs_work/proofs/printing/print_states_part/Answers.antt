use Rattle.mcs_text.proofs.WriteLaws.{writes_nothing}
use Rattle.mcs_work.proofs.printing.print_states_part.Goals as goal

pub returns-in-Counts : goal.returns-in-Counts
returns-in-Counts g c = rw c.in-Counts.is (writes_nothing _ _)
