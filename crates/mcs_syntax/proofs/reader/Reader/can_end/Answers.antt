use Rattle.std.proofs.Common.{ℕ, List, None, length, sym, ap, subst, ◌∙◌}
use Rattle.mcs_syntax.specs.Grammar.{front}
use Rattle.mcs_syntax.specs.Reads.{starts}
use Rattle.mcs_syntax.specs.Parts.{AreInside, coming}
use Rattle.mcs_syntax.proofs.Promises.{end-told}
use Rattle.mcs_syntax.proofs.reader.Reader.can_end.Goals as goal

pub may_go-requires-clause-inside : goal.may_go-requires-clause-inside
may_go-requires-clause-inside g c = subst (AreInside (length c.self.inside.table)) (sym c.deref.ensures.value) c.self.invariant.0

pub returns : goal.returns
returns g c = rw (← c.self.view_is) (end-told (g.N.Rules).grammar c.self.inside.table g.met.N.Rules.readable c.self.inside.stack.items c.may_go.result (c.may_go.ensures ∙ ap (λ (ks : List ℕ). starts None (front (g.N.Rules).grammar (coming c.self.inside.table ks))) c.deref.ensures.value))
