use Rattle.std.proofs.Common.{ℕ, List, Some, length, refl, sym, ap, subst, ◌∙◌}
use Rattle.mcs_syntax.specs.Grammar.{front}
use Rattle.mcs_syntax.specs.Reads.{starts}
use Rattle.mcs_syntax.specs.Parts.{AreInside, IsStack, coming}
use Rattle.mcs_syntax.proofs.Promises.{no-stack, leading, refused, taken-told}
use Rattle.mcs_syntax.proofs.reader.Reader.take.Goals as goal

pub may_go-requires-clause-inside : goal.may_go-requires-clause-inside
may_go-requires-clause-inside g c = subst (AreInside (length c.self.inside.table)) (sym c.deref.ensures.value) c.self.invariant.0

pub returns-then-not-may_go-clause-taken : goal.returns-then-not-may_go-clause-taken
returns-then-not-may_go-clause-taken g c = rw (← c.self.view_is) (refused (g.N.Rules).grammar c.self.inside.table g.met.N.Rules.readable c.self.inside.stack.items c.args.kind c.may_go.result c.args.events.now.items c.args.events.now.items (c.may_go.ensures ∙ ap (λ (ks : List ℕ). starts (Some c.args.kind) (front (g.N.Rules).grammar (coming c.self.inside.table ks))) c.deref.ensures.value) c.if-not-may_go.true refl)

pub step-requires-clause-leads : goal.step-requires-clause-leads
step-requires-clause-leads g c = leading (g.N.Rules).grammar c.self.inside.table g.met.N.Rules.readable c.self.inside.stack.items (Some c.args.kind) c.may_go.result (c.may_go.ensures ∙ ap (λ (ks : List ℕ). starts (Some c.args.kind) (front (g.N.Rules).grammar (coming c.self.inside.table ks))) c.deref.ensures.value) c.if-not-may_go.false

pub returns-in-Ok-clause-taken : goal.returns-in-Ok-clause-taken
returns-in-Ok-clause-taken g c =
    rw (← c.self.view_is) (taken-told (g.N.Rules).grammar c.self.inside.table g.met.N.Rules.readable c.self.inside.stack.items (coming c.self.inside.table c.step.new.stack.items) c.args.kind c.may_go.result c.args.events.now.items c.step.new.events.items (c.may_go.ensures ∙ ap (λ (ks : List ℕ). starts (Some c.args.kind) (front (g.N.Rules).grammar (coming c.self.inside.table ks))) c.deref.ensures.value) c.if-not-may_go.false c.in-Ok.ensures.0)

pub invariant_of-self-in-Err : goal.invariant_of-self-in-Err
invariant_of-self-in-Err g c = subst (IsStack (g.N.Rules).grammar c.self.inside.table) (sym c.clear.ensures.items) (no-stack (g.N.Rules).grammar c.self.inside.table)
