use Rattle.std.proofs.Common.{arith, length, sym, ap, ◌∙◌}
use Rattle.mcs_sets.specs.Sets.{has}
use Rattle.mcs_syntax.specs.declared.front.Front.{Front}
use Rattle.mcs_syntax.specs.Grammar.{front}
use Rattle.mcs_syntax.specs.Parts.{expr_at}
use Rattle.mcs_syntax.specs.Reads.{begun}
use Rattle.mcs_syntax.proofs.Tables.{front-seen}
use Rattle.mcs_syntax.proofs.front.Table.begins.Goals as goal

pub index-requires : goal.index-requires
index-requires g c = omega (arith, c.requires.inside, (c.self.invariant.1).0, ap length c.self.view_is, c.self.inside.fronts.ok.0)

pub returns-in-Some : goal.returns-in-Some
returns-in-Some g c =
    c.has.ensures.value ∙ ap (λ (f : Front). has f.first c.in-Some.kind) (front-seen (g.N.Rules).grammar (g.N.Rules).root c.self.inside.parts.now c.args.self.now c.self.view_is c.self.inside.fronts.items c.self.invariant.1 c.args.place c.index.result.now c.requires.inside c.index.ensures)
    ∙ ap (λ k. begun k (front (g.N.Rules).grammar (expr_at c.args.self.now c.args.place))) (sym c.in-Some.is)
