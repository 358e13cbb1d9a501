use Rattle.std.proofs.Common.{◌+◌, ◌∙◌, ap, sym, subst, arith}
use Rattle.std.specs.List.{AllByRecursion}
use Rattle.std.proofs.lemmas.List.{drop_more, drop_all}
use Rattle.mcs_costs.specs.Costs.{cost}
use Rattle.mcs_report.specs.Repairs.{IsOfSystem}
use Rattle.mcs_text.proofs.WriteLaws.{goes_on, goes_cut, writes_nothing}
use Rattle.mcs_work.proofs.CheapestLemmas.{cheapest_lines-more}
use Rattle.mcs_work.proofs.cheapest.print_found.Goals as goal

pub cost-requires : goal.cost-requires
cost-requires g c =
    let parts = subst (AllByRecursion (IsOfSystem c.args.system.now)) (drop_more c.args.found.now c.loop-k.k c.index-found-k.result c.loop-k-test.true) c.loop-k.invariant.within in
    rw c.marks.ensures (subst (IsOfSystem c.args.system.now) (sym c.index-found-k.is) parts.0).marks

pub print_line-requires : goal.print_line-requires
print_line-requires g c =
    let parts = subst (AllByRecursion (IsOfSystem c.args.system.now)) (drop_more c.args.found.now c.loop-k.k c.index-found-k.result c.loop-k-test.true) c.loop-k.invariant.within in
    subst (IsOfSystem c.args.system.now) (sym c.index-found-k.is) parts.0

pub returns-in_err-print_line : goal.returns-in_err-print_line
returns-in_err-print_line g c = goes_cut _ _ _ _ _ _ _ _ _ c.loop-k.invariant.goes
    (cheapest_lines-more c.args.system.now (c.loop-k.k + 1) c.args.found.now c.loop-k.k c.cost.result c.index-found-k.result c.loop-k-test.true c.index-found-k.is (c.cost.ensures.value ∙ ap (cost c.args.system.now) c.marks.ensures))
    c.from_residual.ensures.1 c.in_err-print_line.ensures

pub loop-k-preserved : goal.loop-k-preserved
loop-k-preserved g c = record {
  goes = goes_on _ _ _ _ _ _ _ _ c.loop-k.invariant.goes
      (cheapest_lines-more c.args.system.now (c.loop-k.k + 1) c.args.found.now c.loop-k.k c.cost.result c.index-found-k.result c.loop-k-test.true c.index-found-k.is (c.cost.ensures.value ∙ ap (cost c.args.system.now) c.marks.ensures))
      c.in_ok-print_line.ensures;
  within = (subst (AllByRecursion (IsOfSystem c.args.system.now)) (drop_more c.args.found.now c.loop-k.k c.index-found-k.result c.loop-k-test.true) c.loop-k.invariant.within).1;
}

pub returns : goal.returns
returns g c =
    let none = drop_all c.loop-k.k c.args.found.now (omega arith) in
    c.loop-k.invariant.goes _ _ (rw none (writes_nothing _ _))
