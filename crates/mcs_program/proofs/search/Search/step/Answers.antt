use Rattle.std.proofs.Common.{None, sym, subst}
use Rattle.mcs_cnf.specs.Entailments.{IsModelAt}
use Rattle.mcs_program.specs.Asked.{program_names, search_rest, HasFoundAll, IsSearchFor}
use Rattle.mcs_program.specs.declared.search.Search.{Search}
use Rattle.mcs_program.specs.Searches.{IsFoundFor}
use Rattle.mcs_program.proofs.search.Search.step.Goals as goal

pub take_up-requires-clause-model : goal.take_up-requires-clause-model
take_up-requires-clause-model c =
    let p = c.args.placed.now.program.now in
    let same = c.in_ok-model.ensures.same in
    let found : IsModelAt (program_names p) (search_rest p c.args.self.now) c.in-Some.model = subst (IsFoundFor (program_names p) (search_rest p c.args.self.now)) c.in-Some.is c.in_ok-model.ensures.found in
    c.made_small-small.ensures.stays (subst (IsSearchFor p) (sym same) c.requires) (subst (λ (s : Search). IsModelAt (program_names p) (search_rest p s) c.in-Some.model) (sym same) found)

pub returns-in-None-clause-ends : goal.returns-in-None-clause-ends
returns-in-None-clause-ends c = λ _.
    let p = c.args.placed.now.program.now in
    let none : IsFoundFor (program_names p) (search_rest p c.args.self.now) None = subst (IsFoundFor (program_names p) (search_rest p c.args.self.now)) c.in-None.is c.in_ok-model.ensures.found in
    subst (HasFoundAll p) (sym c.in_ok-model.ensures.same) none
