use Rattle.mcs_node.proofs.ExistenceLemmas.{totals_exist, totals_are_one, steps_have_their_outcome, outcomes_exclude, steps_have_one_outcome, events_have_steps, outcomes_have_steps, events_have_runs}
use Rattle.mcs_node.proofs.laws.events_have_steps.Goals as goal

pub returns : goal.returns
returns c = record {
  total = totals_exist;
  one_total = totals_are_one;
  outcome = steps_have_their_outcome;
  exclude = outcomes_exclude;
  one_outcome = steps_have_one_outcome;
  step = events_have_steps;
  same_outcome = outcomes_have_steps;
  run = events_have_runs;
}
