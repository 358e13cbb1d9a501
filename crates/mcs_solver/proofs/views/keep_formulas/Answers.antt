use Rattle.mcs_system.specs.Seen.{formula_of}
use Rattle.mcs_cnf.proofs.ListLemmas.{room_kept}
use Rattle.mcs_cnf.proofs.AddingLemmas.{over_at, pushed_more, pushed_none}
use Rattle.mcs_solver.proofs.views.keep_formulas.Goals as goal

pub loop-formula-init : goal.loop-formula-init
loop-formula-init c = record { so_far = pushed_none c.args.atoms.now _; room = c.requires.room }

pub add_formulas-requires-clause-over : goal.add_formulas-requires-clause-over
add_formulas-requires-clause-over c = (over_at formula_of c.args.atoms.now c.args.formulas.now c.loop-formula.formula-index c.formula-item.result c.loop-formula-test.true c.formula-item.is c.requires.over, tt)

pub add_formulas-requires-clause-room : goal.add_formulas-requires-clause-room
add_formulas-requires-clause-room c = c.loop-formula.invariant.room

pub loop-formula-preserved : goal.loop-formula-preserved
loop-formula-preserved c =
    let names = c.args.atoms.now in
    let fs = c.args.formulas.now in
    let i = c.loop-formula.formula-index in
    let f = c.formula-item.result in
    let pushed = c.in_ok-add_formulas.ensures.ok in
    record {
      so_far = pushed_more formula_of names _ c.loop-formula.known c.add_formulas.new.known fs i f c.loop-formula-test.true c.formula-item.is c.loop-formula.invariant.so_far pushed;
      room = room_kept names c.loop-formula.known c.add_formulas.new.known (formula_of f) c.loop-formula.invariant.room pushed;
    }
