use Rattle.std.proofs.Common.{refl}
use Rattle.mcs_syntax.proofs.Tables.{part-seen, later-seen}
use Rattle.mcs_syntax.proofs.front.Table.part.Goals as goal

pub returns-clause-is : goal.returns-clause-is
returns-clause-is g c = part-seen (g.N.Rules).grammar (g.N.Rules).root c.self.inside.parts.now c.args.self.now c.self.view_is c.self.invariant.0 c.args.place c.index-parts-place.result c.requires.inside c.index-parts-place.is c.index-parts-place.result refl

pub returns-clause-later : goal.returns-clause-later
returns-clause-later g c = later-seen (g.N.Rules).grammar (g.N.Rules).root c.self.inside.parts.now c.args.self.now c.self.view_is c.self.invariant.0 c.args.place c.index-parts-place.result c.requires.inside c.index-parts-place.is c.index-parts-place.result refl
