use Rattle.std.proofs.Common.{◌∙◌, ◌++◌, ap, subst}
use Rattle.mcs_diagnosis.specs.Taken.{HasTaken}
use Rattle.mcs_work.specs.Extents.{task_of, front_part}
use Rattle.mcs_work.proofs.StopLemmas.{proceeds_cut}
use Rattle.mcs_work.proofs.CourseLemmas.{level_halts, lines_stop, lines_left, went_on, lines_of_system, gone}
use Rattle.mcs_work.proofs.repairing.print_level.Goals as goal

pub returns-in_err-next-clause-part : goal.returns-in_err-next-clause-part
returns-in_err-next-clause-part g c σs equilibria = proceeds_cut (task_of c.args.extent) (front_part c.args.extent c.args.system.now σs c.args.found.now.items) _ _ _ _ _ _ c.from_residual.ensures.1
    (level_halts c.args.system.now _ _ c.args.levels.now.level c.args.found.now.items c.requires c.in_err-next.ensures.rest c.in_err-next.ensures.halted.not_past c.args.extent σs equilibria _ _ c.in_err-next.ensures.halted.halt_of)

pub print_diagnoses_part-requires-clause-of_system : goal.print_diagnoses_part-requires-clause-of_system
print_diagnoses_part-requires-clause-of_system g c =
    let taken = subst (HasTaken g.E.Evaluator.stands c.args.levels.now c.next.new.self) c.in-Found.is c.in_ok-next.ensures.taken in
    rw c.deref.ensures.value (lines_of_system c.args.system.now _ c.args.levels.now.level c.in-Found.fresh.items c.requires.same taken.found)

pub returns-in_err-print_diagnoses_part-in-Found-clause-part : goal.returns-in_err-print_diagnoses_part-in-Found-clause-part
returns-in_err-print_diagnoses_part-in-Found-clause-part g c σs equilibria =
    let taken = subst (HasTaken g.E.Evaluator.stands c.args.levels.now c.next.new.self) c.in-Found.is c.in_ok-next.ensures.taken in
    proceeds_cut (task_of c.args.extent) (front_part c.args.extent c.args.system.now σs c.args.found.now.items) _ _ _ _ _ _ c.from_residual-in_err-print_diagnoses_part-in-Found.ensures.1
    (lines_stop c.args.system.now _ _ c.args.levels.now.level c.args.found.now.items c.requires c.in_ok-next.ensures.rest taken.not_past c.args.extent σs equilibria c.in-Found.fresh.items taken.found _ _ _
    (rw (c.deref.ensures.value, c.len.ensures, c.args.found.now.ok.0) at c.in_err-print_diagnoses_part-in-Found.ensures))

pub returns-in_err-extend_from_slice-in-Found-clause-part : goal.returns-in_err-extend_from_slice-in-Found-clause-part
returns-in_err-extend_from_slice-in-Found-clause-part g c σs equilibria =
    let taken = subst (HasTaken g.E.Evaluator.stands c.args.levels.now c.next.new.self) c.in-Found.is c.in_ok-next.ensures.taken in
    proceeds_cut (task_of c.args.extent) (front_part c.args.extent c.args.system.now σs c.args.found.now.items) _ _ _ _ _ _ c.from_residual-in_err-extend_from_slice-in-Found.ensures.1
    (lines_left c.args.system.now _ _ c.args.levels.now.level c.args.found.now.items c.requires c.in_ok-next.ensures.rest taken.not_past c.args.extent σs equilibria c.in-Found.fresh.items taken.found _ _ _
    (rw (c.deref.ensures.value, c.len.ensures, c.args.found.now.ok.0) at c.in_ok-print_diagnoses_part-in-Found.ensures))

pub returns-in_ok-extend_from_slice-in-Found-clause-gone : goal.returns-in_ok-extend_from_slice-in-Found-clause-gone
returns-in_ok-extend_from_slice-in-Found-clause-gone g c =
    let taken = subst (HasTaken g.E.Evaluator.stands c.args.levels.now c.next.new.self) c.in-Found.is c.in_ok-next.ensures.taken in
    let written = rw (c.deref.ensures.value, c.len.ensures, c.args.found.now.ok.0) at c.in_ok-print_diagnoses_part-in-Found.ensures in
    record {
      under_way = rw (c.in_ok-extend_from_slice-in-Found.ensures.items, c.deref-in-Found.ensures.value, taken.next) (went_on c.args.system.now _ _ c.args.levels.now.level c.args.found.now.items c.requires c.in_ok-next.ensures.rest taken.not_past c.in-Found.fresh.items taken.level_done taken.found);
      gone = gone c.args.extent c.args.system.now _ c.args.levels.now.level _ c.args.found.now.items c.in-Found.fresh.items _ _ _ c.requires.same taken.not_past taken.next (c.in_ok-extend_from_slice-in-Found.ensures.items ∙ ap (λ ds. c.args.found.now.items ++ ds) c.deref-in-Found.ensures.value) written.whole;
    }
