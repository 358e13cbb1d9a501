use Rattle.std.proofs.Common.{◌<◌, ℕ, length, sym, ap, subst, ◌∙◌}
use Rattle.mcs_syntax.specs.Parts.{expr_at}
use Rattle.mcs_syntax.proofs.Tables.{table-now}
use Rattle.mcs_syntax.proofs.front.Table.place.Goals as goal

pub returns-clause-inside : goal.returns-clause-inside
returns-clause-inside g c = subst (λ (n : ℕ). n < length c.args.self.now) (sym c.place.ensures) ((table-now (g.N.Rules).grammar (g.N.Rules).root c.self.inside.parts.now c.args.self.now c.self.view_is c.self.invariant.0).inside c.args.rule.now)

pub returns-clause-is : goal.returns-clause-is
returns-clause-is g c = ap (expr_at c.args.self.now) c.place.ensures ∙ (table-now (g.N.Rules).grammar (g.N.Rules).root c.self.inside.parts.now c.args.self.now c.self.view_is c.self.invariant.0).rules c.args.rule.now
