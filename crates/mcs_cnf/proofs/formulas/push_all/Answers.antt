use Rattle.std.proofs.Common.{◌≡◌, ◌≤◌, ◌∙◌, [], ◌++◌, map, sym, ap, subst}
use Rattle.std.proofs.lemmas.Result.{on_ok_weaker}
use Rattle.mcs_system.specs.Seen.{formula_of}
use Rattle.mcs_trace.specs.Clauses.{ClauseList}
use Rattle.mcs_cnf.specs.ClauseLists.{with_formulas}
use Rattle.mcs_cnf.proofs.ListLemmas.{all_take_grow, room_kept}
use Rattle.mcs_cnf.proofs.GrowingLemmas.{lent_over, lent_pushed, lent_end}
use Rattle.mcs_cnf.proofs.formulas.push_all.Goals as goal

pub loop-formula-preserved : goal.loop-formula-preserved
loop-formula-preserved c =
    let names = c.args.atoms.now in
    let fs = c.args.formulas.now in
    let i = c.loop-formula.formula-index in
    let f = c.formula-item.result in
    let pushed = c.in_ok-push_formula.ensures.ok in
    record {
      all = lent_pushed (λ f. formula_of f.now) names c.loop-formula.own c.push_formula.new.cnf fs i f c.loop-formula-test.true c.formula-item.is pushed ∙ c.loop-formula.invariant.all;
      over = (lent_over (λ f. formula_of f.now) names fs i f c.loop-formula-test.true c.formula-item.is c.loop-formula.invariant.over).1;
      room = room_kept names c.loop-formula.own c.push_formula.new.cnf (formula_of f.now) c.loop-formula.invariant.room pushed;
    }

pub push_formula-requires-clause-over : goal.push_formula-requires-clause-over
push_formula-requires-clause-over c =
    (lent_over (λ f. formula_of f.now) c.args.atoms.now c.args.formulas.now c.loop-formula.formula-index c.formula-item.result c.loop-formula-test.true c.formula-item.is c.loop-formula.invariant.over).0

pub append-requires : goal.append-requires
append-requires c =
    let names = c.args.atoms.now in
    let known : ClauseList = c.args.known.now in
    let empty : ClauseList = record { vars = known.vars; clauses = [] } in
    let fs = map (λ f. formula_of f.now) c.args.formulas.now in
    let own : c.loop-formula.own ≡ with_formulas names empty fs = lent_end (λ f. formula_of f.now) names c.loop-formula.own empty c.args.formulas.now c.loop-formula.formula-index c.loop-formula-test.false c.loop-formula.invariant.all in
    subst (λ (x : ClauseList). known.vars ≤ x.vars) (sym own) (all_take_grow known.vars fs)

pub returns-clause-ok : goal.returns-clause-ok
returns-clause-ok c =
    let names = c.args.atoms.now in
    let known : ClauseList = c.args.known.now in
    let empty : ClauseList = record { vars = known.vars; clauses = [] } in
    let fs = map (λ f. formula_of f.now) c.args.formulas.now in
    let own : c.loop-formula.own ≡ with_formulas names empty fs = lent_end (λ f. formula_of f.now) names c.loop-formula.own empty c.args.formulas.now c.loop-formula.formula-index c.loop-formula-test.false c.loop-formula.invariant.all in
    on_ok_weaker c.append.result (λ e. e ∙ ap (λ (x : ClauseList). record { vars = x.vars; clauses = known.clauses ++ x.clauses }) own) c.append.ensures.ok
