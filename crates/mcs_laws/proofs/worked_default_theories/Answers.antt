use Rattle.mcs_laws.proofs.Worked.{defaults_are_grounded, defaults_may_choose, told_facts_block}
use Rattle.mcs_laws.proofs.worked_default_theories.Goals as goal

pub returns : goal.returns
returns c = record { grounded = defaults_are_grounded; choose = defaults_may_choose; blocked = told_facts_block }
