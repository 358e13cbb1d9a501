use Rattle.std.proofs.Common.{◌∙◌, ap, map}
use Rattle.mcs_sets.specs.Sets.{common}
use Rattle.mcs_table.specs.declared.row.Row.{Row}
use Rattle.mcs_table.proofs.ProjectionLemmas.{projections_listed}
use Rattle.mcs_table.proofs.fitting.projections_of.Goals as goal

pub returns : goal.returns
returns c = projections_listed c.args.t.now.rows c.args.set c.in_ok-projections.projections.items c.list_states.new.states.items (c.in_ok-projections.ensures ∙ ap (map (λ (r : Row). common r.state.values c.args.set)) c.rows.ensures.value) c.list_states.ensures
