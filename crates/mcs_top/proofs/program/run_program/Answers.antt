use Rattle.mcs_top.proofs.program.run_program.Goals as goal

pub returns-clause-kept : goal.returns-clause-kept
returns-clause-kept g c = (c.done_so.result, c.number.ensures, c.done_so.ensures.kept)
