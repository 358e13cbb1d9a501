use Rattle.std.proofs.Common.{ap, ◌∙◌, sym, arith, length}
use Rattle.mcs_base.proofs.RowLemmas.{rows-length}
use Rattle.mcs_base.proofs.rows.Rows.len.Goals as goal

pub returns : goal.returns
returns g c = (let ok = c.self.inside.ends.ok.0 in omega (arith, c.len.ensures)) ∙ sym (rows-length 0 c.self.inside.items.items c.self.inside.ends.items) ∙ ap length c.self.view_is
