use Rattle.std.proofs.Common.{sym, subst}
use Rattle.mcs_syntax.specs.Parts.{IsStack}
use Rattle.mcs_syntax.proofs.Promises.{no-stack}
use Rattle.mcs_syntax.proofs.reader.Reader.start.Goals as goal

pub begin-requires : goal.begin-requires
begin-requires g c = record { none = c.clear.ensures.items }

pub returns-in-Ok-clause-goes : goal.returns-in-Ok-clause-goes
returns-in-Ok-clause-goes g c = c.in-Ok.ensures.0

pub invariant_of-self-in-Err : goal.invariant_of-self-in-Err
invariant_of-self-in-Err g c = subst (IsStack (g.N.Rules).grammar c.self.inside.table) (sym c.clear-in-Err.ensures.items) (no-stack (g.N.Rules).grammar c.self.inside.table)
