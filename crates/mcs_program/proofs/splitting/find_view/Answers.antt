use Rattle.std.proofs.Common.{sym, subst}
use Rattle.mcs_system.specs.Logic.{true_names, Atoms}
use Rattle.mcs_system.specs.Views.{Shows}
use Rattle.mcs_program.specs.Asked.{program_names, program_beliefs, belief_names}
use Rattle.mcs_program.specs.Searches.{IsFoundFor}
use Rattle.mcs_program.proofs.PlaceLemmas.{view_shows}
use Rattle.mcs_program.proofs.splitting.find_view.Goals as goal

pub returns-in-Some-clause-found : goal.returns-in-Some-clause-found
returns-in-Some-clause-found c fs meant =
    let p = c.args.placed.now.program.now in
    let model = c.in-Some.model in
    record {
      model = model;
      is = subst (IsFoundFor (program_names p) fs) c.in-Some.is (c.in_ok-model.ensures.found fs meant);
      shows = subst (Shows (Atoms (true_names 0 (program_names p) model)) (program_beliefs p)) (sym c.view_of.ensures) (view_shows (program_names p) (belief_names p) c.args.placed.now.placing.beliefs.items model c.args.placed.now.right.placed_beliefs);
    }

pub returns-in-None-clause-found : goal.returns-in-None-clause-found
returns-in-None-clause-found c fs meant = subst (IsFoundFor (program_names c.args.placed.now.program.now) fs) c.in-None.is (c.in_ok-model.ensures.found fs meant)
