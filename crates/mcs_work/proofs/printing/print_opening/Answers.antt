use Rattle.mcs_text.proofs.WriteLaws.{writes_nothing}
use Rattle.mcs_work.proofs.printing.print_opening.Goals as goal

pub returns-in-Make : goal.returns-in-Make
returns-in-Make g c = rw c.in-Make.is (writes_nothing _ _)
