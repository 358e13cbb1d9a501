use Rattle.std.proofs.Common.{◌∙◌, subst}
use Rattle.mcs_states.proofs.Causes.{rest_kept}
use Rattle.mcs_diagnosis.specs.Taken.{HasTakenPairs}
use Rattle.mcs_cheapest.proofs.EndLemmas.{not_settled}
use Rattle.mcs_cheapest.proofs.SearchLemmas.{breaks_off, fresh_marks, goes_on, searches_cut, searches_memory}
use Rattle.mcs_cheapest.proofs.searching.take_levels.Goals as goal

pub returns-in_err-fresh : goal.returns-in_err-fresh
returns-in_err-fresh g c =
    let first = g.E.Evaluator.stands c.args.levels.now.evaluator in
    let not_yet = not_settled first.system c.args.system.now c.requires.can.same c.loop-alloc.least c.least_weight-weight.result c.least_weight-weight.ensures c.loop-alloc.levels.level c.level.result c.level.ensures c.is_settled.result c.is_settled.ensures c.loop-alloc-test.true in
    let halted = c.in_err-fresh.ensures.halted in
    searches_cut _ _ _ _ _ c.from_residual.ensures.1
    (breaks_off first (g.E.Evaluator.stands c.loop-alloc.levels.evaluator) c.args.system.now c.requires.can.same c.bridges-bridges.ensures.valid c.loop-alloc.levels.level c.loop-alloc.pairs.items c.loop-alloc.least c.loop-alloc.invariant halted.not_past not_yet _ _ halted.halt_of.cause halted.halt_of.told)
    (rest_kept _ _ _ c.loop-alloc.invariant.rest c.in_err-fresh.ensures.rest)

pub least_cost-least-requires : goal.least_cost-least-requires
least_cost-least-requires g c =
    let taken = subst (HasTakenPairs g.E.Evaluator.stands c.loop-alloc.levels c.next_pairs.new.self) c.in-Some.is c.in_ok-fresh.ensures.taken in
    fresh_marks c.args.system.now (g.E.Evaluator.stands c.loop-alloc.levels.evaluator).system c.loop-alloc.levels.level c.in-Some.fresh.items c.deref.result.now (c.loop-alloc.invariant.rest.system ∙ c.requires.can.same) c.deref.ensures.value taken.found

pub returns-in_err-extend_from_slice : goal.returns-in_err-extend_from_slice
returns-in_err-extend_from_slice g c = searches_memory _ _ _ _ c.from_residual-in_err-extend_from_slice.ensures.1 (rest_kept _ _ _ c.loop-alloc.invariant.rest c.in_ok-fresh.ensures.rest)

pub loop-alloc-preserved : goal.loop-alloc-preserved
loop-alloc-preserved g c =
    let first = g.E.Evaluator.stands c.args.levels.now.evaluator in
    let not_yet = not_settled first.system c.args.system.now c.requires.can.same c.loop-alloc.least c.least_weight-weight.result c.least_weight-weight.ensures c.loop-alloc.levels.level c.level.result c.level.ensures c.is_settled.result c.is_settled.ensures c.loop-alloc-test.true in
    let taken = subst (HasTakenPairs g.E.Evaluator.stands c.loop-alloc.levels c.next_pairs.new.self) c.in-Some.is c.in_ok-fresh.ensures.taken in
    goes_on first (g.E.Evaluator.stands c.loop-alloc.levels.evaluator) c.args.system.now c.requires.can.same c.bridges-bridges.ensures.valid c.loop-alloc.levels.level c.loop-alloc.pairs.items c.loop-alloc.least c.loop-alloc.invariant taken.not_past not_yet
    (g.E.Evaluator.stands c.next_pairs.new.self.evaluator) c.next_pairs.new.self.level c.in-Some.fresh.items c.deref.result.now c.deref-in-loop-alloc.result.now c.extend_from_slice.new.self.items c.least_cost-least.result
    c.in_ok-fresh.ensures.rest taken.level_done taken.next taken.found c.deref.ensures.value c.deref-in-loop-alloc.ensures.value c.in_ok-extend_from_slice.ensures.items c.least_cost-least.ensures
