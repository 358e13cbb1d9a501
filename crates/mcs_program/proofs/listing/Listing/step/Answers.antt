use Rattle.std.proofs.Common.{sym, subst}
use Rattle.mcs_trace.specs.Clauses.{ClauseList}
use Rattle.mcs_program.specs.Asked.{program_names, listing_rest, IsListingFor}
use Rattle.mcs_program.specs.Searches.{IsFoundFor}
use Rattle.mcs_program.proofs.listing.Listing.step.Goals as goal

pub find_model-requires : goal.find_model-requires
find_model-requires c = c.requires.known.room

pub take_up-requires-clause-listed : goal.take_up-requires-clause-listed
take_up-requires-clause-listed c =
    subst (λ (k : ClauseList). IsListingFor c.args.placed.now.program.now (record c.args.self.now { known = k })) (sym c.in_ok-model.ensures.same) c.requires

pub take_up-requires-clause-model : goal.take_up-requires-clause-model
take_up-requires-clause-model c =
    let p = c.args.placed.now.program.now in
    subst (IsFoundFor (program_names p) (listing_rest p c.args.self.now)) c.in-Some.is (c.in_ok-model.ensures.found (listing_rest p c.args.self.now) c.requires.known)

pub returns-in-None-clause-ends : goal.returns-in-None-clause-ends
returns-in-None-clause-ends c = λ _.
    let p = c.args.placed.now.program.now in
    subst (IsFoundFor (program_names p) (listing_rest p c.args.self.now)) c.in-None.is (c.in_ok-model.ensures.found (listing_rest p c.args.self.now) c.requires.known)
