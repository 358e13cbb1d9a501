use Rattle.std.proofs.Common.{sym, subst}
use Rattle.mcs_syntax.specs.Parts.{IsStack}
use Rattle.mcs_syntax.proofs.Promises.{no-stack}
use Rattle.mcs_syntax.proofs.reader.Reader.new.Goals as goal

pub invariant_of-result : goal.invariant_of-result
invariant_of-result g c = subst (IsStack (g.N.Rules).grammar c.in_ok-table.table) (sym c.new-stack.ensures.items) (no-stack (g.N.Rules).grammar c.in_ok-table.table)
