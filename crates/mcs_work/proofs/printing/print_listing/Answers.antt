use Rattle.std.proofs.Common.{◌≡◌, not, nat_lt, length, arith}
use Rattle.std.proofs.lemmas.Bool.Decides.{nat_tests}
use Rattle.mcs_text.proofs.WriteLaws.{writes_then, writes_cut}
use Rattle.mcs_work.proofs.printing.print_listing.Goals as goal

pub returns-in_err-print_states : goal.returns-in_err-print_states
returns-in_err-print_states g c = writes_cut _ _ _ _ _ _ c.from_residual.ensures.1 c.in_err-print_states.ensures

pub returns-in_err-print_line : goal.returns-in_err-print_line
returns-in_err-print_line g c =
    let told = c.is_empty-consistent.ensures in
    let some : nat_lt 0 (length c.args.states.now) ≡ not c.is_empty-consistent.result = grind (arith, nat_tests) in
    rw some (writes_then _ _ _ _ _ _ _ c.in_ok-print_states.ensures
    (writes_cut _ _ _ _ _ _ c.from_residual-in_err-print_line.ensures.1 c.in_err-print_line.ensures))

pub returns : goal.returns
returns g c =
    let told = c.is_empty-consistent.ensures in
    let some : nat_lt 0 (length c.args.states.now) ≡ not c.is_empty-consistent.result = grind (arith, nat_tests) in
    rw some (writes_then _ _ _ _ _ _ _ c.in_ok-print_states.ensures (writes_then _ _ _ _ _ _ _ c.in_ok-print_line.ensures c.print_line-2.ensures))
