use Rattle.mcs_text.proofs.WriteLaws.{writes_then, writes_cut}
use Rattle.mcs_work.proofs.cheapest.print_cheapest.Goals as goal

pub returns-in_err-print_line : goal.returns-in_err-print_line
returns-in_err-print_line g c = rw (← c.is_free-consistent.ensures) (writes_cut _ _ _ _ _ _ c.from_residual.ensures.1 c.in_err-print_line.ensures)

pub returns-in_err-print_found : goal.returns-in_err-print_found
returns-in_err-print_found g c = rw (← c.is_free-consistent.ensures) (writes_then _ _ _ _ _ _ _ c.in_ok-print_line.ensures
    (writes_cut _ _ _ _ _ _ c.from_residual-in_err-print_found.ensures.1 (rw c.deref.ensures.value at c.in_err-print_found.ensures)))

pub returns : goal.returns
returns g c = rw (← c.is_free-consistent.ensures) (writes_then _ _ _ _ _ _ _ c.in_ok-print_line.ensures
    (writes_then _ _ _ _ _ _ _ (rw c.deref.ensures.value at c.in_ok-print_found.ensures) (rw (c.len.ensures, c.args.cheapest.now.found.ok.0) at c.print_line-2.ensures)))
