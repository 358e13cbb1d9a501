use Rattle.std.proofs.Common.{◌∙◌, arith}
use Rattle.std.proofs.lemmas.Grind.{common_steps}
use Rattle.mcs_system.specs.Seen.{formula_of}
use Rattle.mcs_cnf.proofs.ListLemmas.{rest_over, rest_pushed, room_kept}
use Rattle.mcs_cnf.proofs.formulas.clauses.Goals as goal

pub loop-formula-preserved : goal.loop-formula-preserved
loop-formula-preserved c =
    let names = c.args.atoms.now in
    let fs = c.args.formulas.now in
    let i = c.loop-formula.formula-index in
    let f = c.formula-item.result in
    let pushed = c.in_ok-push_formula.ensures.ok in
    record {
      all = rest_pushed names c.loop-formula.cnf c.push_formula.new.cnf fs i f c.loop-formula-test.true c.formula-item.is pushed ∙ c.loop-formula.invariant.all;
      over = (rest_over names fs i f c.loop-formula-test.true c.formula-item.is c.loop-formula.invariant.over).1;
      room = room_kept names c.loop-formula.cnf c.push_formula.new.cnf (formula_of f) c.loop-formula.invariant.room pushed;
    }

pub loop-formula-init : goal.loop-formula-init
loop-formula-init c = grind (arith, common_steps)
