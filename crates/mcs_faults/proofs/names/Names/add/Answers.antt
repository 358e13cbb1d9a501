use Rattle.std.proofs.Common.{◌∙◌, ap}
use Rattle.mcs_faults.specs.Names.{bytes_in}
use Rattle.mcs_faults.proofs.NameTables.{added, kept}
use Rattle.mcs_faults.proofs.names.Names.add.Goals as goal

pub returns-clause-new : goal.returns-clause-new
returns-clause-new c = rw (← c.self.view_is) (λ new. ap bytes_in c.in_ok-insert.ensures.keys ∙ added c.args.name.now c.in_ok-to_vec.field-0 c.self.inside.table.keys (c.in_ok-to_vec.ensures.items_if_clones_equal (λ x y e. e)) new)

pub returns-clause-there : goal.returns-clause-there
returns-clause-there c = rw (← c.self.view_is) (λ there. ap bytes_in c.in_ok-insert.ensures.keys ∙ kept c.args.name.now c.in_ok-to_vec.field-0 c.self.inside.table.keys (c.in_ok-to_vec.ensures.items_if_clones_equal (λ x y e. e)) there)
