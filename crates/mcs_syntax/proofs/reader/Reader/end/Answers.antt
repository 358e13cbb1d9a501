use Rattle.std.proofs.Common.{ℕ, List, None, length, refl, sym, ap, subst, ◌∙◌}
use Rattle.mcs_syntax.specs.Grammar.{front}
use Rattle.mcs_syntax.specs.Reads.{starts}
use Rattle.mcs_syntax.specs.Parts.{AreInside, IsStack, coming}
use Rattle.mcs_syntax.proofs.Promises.{no-stack, leading, not-ended, ended-told}
use Rattle.mcs_syntax.proofs.reader.Reader.end.Goals as goal

pub may_go-requires-clause-inside : goal.may_go-requires-clause-inside
may_go-requires-clause-inside g c = subst (AreInside (length c.self.inside.table)) (sym c.deref.ensures.value) c.self.invariant.0

pub returns-then-not-may_go : goal.returns-then-not-may_go
returns-then-not-may_go g c = rw (← c.self.view_is) (not-ended (g.N.Rules).grammar c.self.inside.table g.met.N.Rules.readable c.self.inside.stack.items c.may_go.result c.args.events.now.items c.args.events.now.items (c.may_go.ensures ∙ ap (λ (ks : List ℕ). starts None (front (g.N.Rules).grammar (coming c.self.inside.table ks))) c.deref.ensures.value) c.if-not-may_go.true refl)

pub go-requires-clause-leads : goal.go-requires-clause-leads
go-requires-clause-leads g c = leading (g.N.Rules).grammar c.self.inside.table g.met.N.Rules.readable c.self.inside.stack.items None c.may_go.result (c.may_go.ensures ∙ ap (λ (ks : List ℕ). starts None (front (g.N.Rules).grammar (coming c.self.inside.table ks))) c.deref.ensures.value) c.if-not-may_go.false

pub returns-in-Ok : goal.returns-in-Ok
returns-in-Ok g c = rw (← c.self.view_is) (ended-told (g.N.Rules).grammar c.self.inside.table c.self.inside.stack.items c.go.new.stack.items (coming c.self.inside.table c.clear.new.self.items) c.args.events.now.items c.go.new.events.items c.in-Ok.ensures)

pub invariant_of-self-in-Err : goal.invariant_of-self-in-Err
invariant_of-self-in-Err g c = subst (IsStack (g.N.Rules).grammar c.self.inside.table) (sym c.clear-in-Err.ensures.items) (no-stack (g.N.Rules).grammar c.self.inside.table)
