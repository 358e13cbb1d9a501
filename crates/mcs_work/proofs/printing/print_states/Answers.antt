use Rattle.std.proofs.Common.{sym, subst, arith}
use Rattle.std.specs.List.{AllByRecursion}
use Rattle.std.proofs.lemmas.List.{drop_more, drop_all}
use Rattle.mcs_sets.specs.Sets.{Within}
use Rattle.mcs_system.specs.Systems.{all_variables}
use Rattle.mcs_report.proofs.LineLemmas.{lines_more}
use Rattle.mcs_work.specs.Printed.{sort_word}
use Rattle.mcs_text.proofs.WriteLaws.{goes_on, goes_cut, writes_nothing}
use Rattle.mcs_work.proofs.printing.print_states.Goals as goal

pub print_line-requires : goal.print_line-requires
print_line-requires g c =
    let parts = subst (AllByRecursion (λ σ. Within σ (all_variables c.args.system.now))) (drop_more c.args.states.now c.loop-k.k c.index-states-k.result c.loop-k-test.true) c.loop-k.invariant.within in
    subst (λ σ. Within σ (all_variables c.args.system.now)) (sym c.index-states-k.is) parts.0

pub returns-in_err-print_line : goal.returns-in_err-print_line
returns-in_err-print_line g c = goes_cut _ _ _ _ _ _ _ _ _ c.loop-k.invariant.goes
    (lines_more (sort_word c.args.sort) c.args.system.now c.args.states.now c.loop-k.k c.index-states-k.result c.loop-k-test.true c.index-states-k.is)
    c.from_residual.ensures.1 c.in_err-print_line.ensures

pub loop-k-preserved : goal.loop-k-preserved
loop-k-preserved g c = record {
  goes = goes_on _ _ _ _ _ _ _ _ c.loop-k.invariant.goes
      (lines_more (sort_word c.args.sort) c.args.system.now c.args.states.now c.loop-k.k c.index-states-k.result c.loop-k-test.true c.index-states-k.is)
      c.in_ok-print_line.ensures;
  within = (subst (AllByRecursion (λ σ. Within σ (all_variables c.args.system.now))) (drop_more c.args.states.now c.loop-k.k c.index-states-k.result c.loop-k-test.true) c.loop-k.invariant.within).1;
}

pub returns : goal.returns
returns g c =
    let none = drop_all c.loop-k.k c.args.states.now (omega arith) in
    c.loop-k.invariant.goes _ _ (rw none (writes_nothing _ _))
