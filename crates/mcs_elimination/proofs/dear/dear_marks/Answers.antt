use Rattle.std.proofs.Common.{Some, None, subst}
use Rattle.mcs_elimination.specs.Lightest.{IsBoundAt}
use Rattle.mcs_elimination.proofs.dear.dear_marks.Goals as goal

pub returns-in-None : goal.returns-in-None
returns-in-None c = (None, subst (IsBoundAt c.args.system.now c.args.level) c.in-None.is c.bound_at.ensures, c.new.ensures.items)

pub returns-in_ok-dear-in-Some : goal.returns-in_ok-dear-in-Some
returns-in_ok-dear-in-Some c = (Some c.in-Some.bound, subst (IsBoundAt c.args.system.now c.args.level) c.in-Some.is c.bound_at.ensures, c.in_ok-dear-in-Some.ensures)
