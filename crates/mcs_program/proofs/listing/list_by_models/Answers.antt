use Rattle.mcs_program.specs.Asked.{program_names, program_rules, program_beliefs, belief_names}
use Rattle.mcs_program.proofs.SearchLemmas.{atoms_of_names}
use Rattle.mcs_program.proofs.ListingLemmas.{all_listed}
use Rattle.mcs_program.proofs.listing.list_by_models.Goals as goal

pub returns : goal.returns
returns c =
    let p = c.args.placed.now.program.now in
    all_listed (program_names p) (program_rules p) (program_beliefs p) c.in_ok-known.field-0 (atoms_of_names (program_names p) (belief_names p) p.beliefs_over) c.in_ok-known.ensures.listed c.in_ok-known.ensures.all
