use Rattle.std.proofs.Common.{subst}
use Rattle.std.proofs.lemmas.Result.{IfOk-weaker}
use Rattle.mcs_trace.specs.Traces.{inferences_of}
use Rattle.mcs_cnf.specs.Entailments.{IsModelAt}
use Rattle.mcs_classical.specs.Models.{IsSatisfiedAnswer}
use Rattle.mcs_evidence.specs.Programs.{smaller_formulas, IsRefutation}
use Rattle.mcs_program.specs.Asked.{program_names, program_rules, program_beliefs, belief_names}
use Rattle.mcs_program.proofs.SearchLemmas.{excluded_search, excluded_less, listed_search, listed_less, atoms_of_names}
use Rattle.mcs_program.proofs.search.Search.take_up.Goals as goal

pub exclude-requires : goal.exclude-requires
exclude-requires c = c.requires.search.known.room

pub returns-in-Model-clause-search : goal.returns-in-Model-clause-search
returns-in-Model-clause-search c =
    let p = c.args.placed.now.program.now in
    let fs = smaller_formulas (program_names p) (program_rules p) c.args.model in
    let below : IsModelAt (program_names p) fs c.in-Model.less = subst (IsSatisfiedAnswer (program_names p) fs) c.in-Model.is c.in_ok-less.ensures in
    IfOk-weaker c.exclude.result _ _ (λ _ e. excluded_search (program_names p) (program_rules p) (program_beliefs p) c.args.self.now c.exclude.new.self c.in-Model.less below.in_range e c.requires.search) c.exclude.ensures

pub returns-in-Model-clause-less : goal.returns-in-Model-clause-less
returns-in-Model-clause-less c =
    let p = c.args.placed.now.program.now in
    let fs = smaller_formulas (program_names p) (program_rules p) c.args.model in
    let below : IsModelAt (program_names p) fs c.in-Model.less = subst (IsSatisfiedAnswer (program_names p) fs) c.in-Model.is c.in_ok-less.ensures in
    IfOk-weaker c.exclude.result _ _ (λ _ e. excluded_less (program_names p) (program_rules p) (program_beliefs p) c.args.self.now c.exclude.new.self c.args.model c.in-Model.less e c.requires.model below) c.exclude.ensures

pub returns-in-Refuted-clause-search : goal.returns-in-Refuted-clause-search
returns-in-Refuted-clause-search c =
    let p = c.args.placed.now.program.now in
    let fs = smaller_formulas (program_names p) (program_rules p) c.args.model in
    let minimal = inferences_of c.in-Refuted.minimal in
    let refutes : IsRefutation (program_names p) fs minimal = (subst (IsSatisfiedAnswer (program_names p) fs) c.in-Refuted.is c.in_ok-less.ensures).0 in
    IfOk-weaker c.list.result _ _ (λ _ e. listed_search (program_names p) (program_rules p) (program_beliefs p) c.args.self.now c.list.new.self c.args.model minimal e (atoms_of_names (program_names p) (belief_names p) p.beliefs_over) c.requires.model refutes c.requires.search) c.list.ensures

pub returns-in-Refuted-clause-less : goal.returns-in-Refuted-clause-less
returns-in-Refuted-clause-less c =
    let p = c.args.placed.now.program.now in
    let minimal = inferences_of c.in-Refuted.minimal in
    IfOk-weaker c.list.result _ _ (λ _ e. listed_less (program_names p) (program_rules p) (program_beliefs p) c.args.self.now c.list.new.self c.args.model minimal e (atoms_of_names (program_names p) (belief_names p) p.beliefs_over) c.requires.model) c.list.ensures
