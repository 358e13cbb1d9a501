use Rattle.std.proofs.Common.{List, map, sym, subst}
use Rattle.std.proofs.lemmas.List.{take_all}
use Rattle.mcs_base.proofs.Mapped.{map-take_read}
use Rattle.mcs_base.proofs.Results.{on_ok}
use Rattle.mcs_system.specs.Plain.{Formula}
use Rattle.mcs_system.specs.Seen.{formula_of}
use Rattle.mcs_system.specs.declared.formula.Formula as code
use Rattle.mcs_trace.specs.Clauses.{ClauseList}
use Rattle.mcs_meant.specs.Meanings.{AreMeantBy}
use Rattle.mcs_cnf.proofs.AddingLemmas.{over_at}
use Rattle.mcs_solver.proofs.views.keep_meanings.Goals as goal

pub add_meant-requires-clause-over : goal.add_meant-requires-clause-over
add_meant-requires-clause-over c = over_at formula_of c.args.atoms.now c.args.formulas.now c.loop-formula.formula-index c.formula-item.result c.loop-formula-test.true c.formula-item.is c.requires.over

pub add_meant-requires-clause-room : goal.add_meant-requires-clause-room
add_meant-requires-clause-room c = c.loop-formula.invariant.room

pub loop-formula-init : goal.loop-formula-init
loop-formula-init c = c.requires.meant

pub loop-formula-preserved : goal.loop-formula-preserved
loop-formula-preserved c =
    let fs = c.args.formulas.now in
    let i = c.loop-formula.formula-index in
    subst (λ (gs : List Formula). AreMeantBy c.args.atoms.now gs c.add_meant.new.known) (sym (map-take_read formula_of fs i c.formula-item.result c.loop-formula-test.true c.formula-item.is))
    (c.in_ok-add_meant.ensures.ok _ c.loop-formula.invariant)

pub returns : goal.returns
returns c =
    let names = c.args.atoms.now in
    let all = subst (λ (fs : List code.Formula). AreMeantBy names (map formula_of fs) c.loop-formula.known) (take_all c.loop-formula.formula-index c.args.formulas.now c.loop-formula-test.false) c.loop-formula.invariant in
    on_ok c.settle.result (subst (λ (k : ClauseList). AreMeantBy names (map formula_of c.args.formulas.now) k) (sym c.settle.ensures) all)
