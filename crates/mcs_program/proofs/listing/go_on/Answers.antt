use Rattle.mcs_program.proofs.listing.go_on.Goals as goal

pub returns-in-Ok-false-clause-all : goal.returns-in-Ok-false-clause-all
returns-in-Ok-false-clause-all c = c.in-Ok-false.ensures.ends c.in-Ok-false.field-0-test
