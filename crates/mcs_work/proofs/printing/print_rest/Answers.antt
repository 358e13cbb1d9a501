use Rattle.mcs_text.proofs.WriteLaws.{writes_then, writes_cut}
use Rattle.mcs_work.proofs.printing.print_rest.Goals as goal

pub returns-in_err-print_explanations_part : goal.returns-in_err-print_explanations_part
returns-in_err-print_explanations_part g c = writes_cut _ _ _ _ _ _ c.from_residual.ensures.1 c.in_err-print_explanations_part.ensures

pub returns : goal.returns
returns g c = writes_then _ _ _ _ _ _ _ c.in_ok-print_explanations_part.ensures c.print_line.ensures
