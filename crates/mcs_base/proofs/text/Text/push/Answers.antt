use Rattle.mcs_base.proofs.text.Text.push.Goals as goal

pub returns-clause-ok : goal.returns-clause-ok
returns-clause-ok c = rw (← c.self.view_is) c.in_ok-extend_from_slice.ensures.items
