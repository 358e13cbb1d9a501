use Rattle.std.proofs.Common.{arith, length, ap}
use Rattle.mcs_syntax.specs.declared.front.Front.{Front}
use Rattle.mcs_syntax.proofs.Tables.{front-seen}
use Rattle.mcs_syntax.proofs.front.Table.is_null.Goals as goal

pub index-requires : goal.index-requires
index-requires g c = omega (arith, c.requires.inside, (c.self.invariant.1).0, ap length c.self.view_is, c.self.inside.fronts.ok.0)

pub returns : goal.returns
returns g c = ap (λ (f : Front). f.is_null) (front-seen (g.N.Rules).grammar (g.N.Rules).root c.self.inside.parts.now c.args.self.now c.self.view_is c.self.inside.fronts.items c.self.invariant.1 c.args.place c.index.result.now c.requires.inside c.index.ensures)
