use Rattle.std.proofs.Common.{[]}
use Rattle.mcs_system.specs.Systems.{all_rules}
use Rattle.mcs_existence.proofs.SystemListings.{all_states_listed}
use Rattle.mcs_work.specs.Extents.{task_of, front_part}
use Rattle.mcs_work.proofs.StopLemmas.{proceeds_cut, proceeds_ok}
use Rattle.mcs_work.proofs.CourseLemmas.{levels_then, went_through, lines_added}
use Rattle.mcs_work.proofs.repairing.print_levels.Goals as goal

pub returns-in_err-print_level-clause-part : goal.returns-in_err-print_level-clause-part
returns-in_err-print_level-clause-part g c σs equilibria = proceeds_cut (task_of c.args.extent) (front_part c.args.extent c.args.system.now σs []) _ _ _ _ _ _ c.from_residual.ensures.1
    (levels_then c.args.extent c.args.system.now σs c.loop-found.found.items _ _ _ _ _ _ _ [] c.loop-found.invariant.part c.loop-found.invariant.written _ (c.in_err-print_level.ensures.part σs equilibria))

pub loop-found-preserved : goal.loop-found-preserved
loop-found-preserved g c =
    let (σs, equilibria) = all_states_listed c.args.system.now (all_rules c.args.system.now) 0 in
    let added = went_through c.args.extent c.args.system.now c.loop-found.levels.level _ c.loop-found.found.items _ _ _ c.in_ok-print_level.field-0 c.if-not-branch.false c.in_ok-print_level.ensures.gone.gone in
    record {
      part = proceeds_ok (task_of c.args.extent) _ _ _ _ _ [] _ tt (levels_then c.args.extent c.args.system.now σs c.loop-found.found.items _ _ _ _ _ _ _ [] c.loop-found.invariant.part c.loop-found.invariant.written _ (c.in_ok-print_level.ensures.part σs equilibria));
      under_way = c.in_ok-print_level.ensures.gone.under_way;
      written = lines_added c.args.extent c.args.system.now c.loop-found.found.items _ _ _ _ c.loop-found.invariant.written added;
    }
