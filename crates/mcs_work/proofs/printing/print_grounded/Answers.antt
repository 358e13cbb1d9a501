use Rattle.mcs_text.proofs.WriteLaws.{writes_then, writes_cut}
use Rattle.mcs_work.proofs.printing.print_grounded.Goals as goal

pub returns-in_err-print_states : goal.returns-in_err-print_states
returns-in_err-print_states g c = writes_cut _ _ _ _ _ _ c.from_residual.ensures.1 c.in_err-print_states.ensures

pub returns : goal.returns
returns g c = writes_then _ _ _ _ _ _ _ c.in_ok-print_states.ensures c.print_line.ensures
