use Rattle.std.proofs.Common.{◌≡◌, ◌+◌, ◌++◌, drop, sym, ap, ◌∙◌, subst, arith}
use Rattle.std.specs.List.{AllByRecursion}
use Rattle.std.proofs.lemmas.List.{drop_more, drop_all}
use Rattle.mcs_report.specs.Repairs.{diagnosis_line}
use Rattle.mcs_report.specs.Solutions.{diagnosis_lines}
use Rattle.mcs_report.proofs.SolutionLemmas.{diagnosis_lines-more}
use Rattle.mcs_text.proofs.WriteLaws.{goes_on, goes_cut, writes_nothing}
use Rattle.mcs_report.specs.Repairs.{IsOfSystem}
use Rattle.mcs_work.proofs.printing.print_diagnoses.Goals as goal

pub print_line-requires : goal.print_line-requires
print_line-requires g c =
    let parts = subst (AllByRecursion (IsOfSystem c.args.system.now)) (drop_more c.args.diagnoses.now c.loop-k.k c.index-diagnoses-k.result c.loop-k-test.true) c.loop-k.invariant.within in
    subst (IsOfSystem c.args.system.now) (sym c.index-diagnoses-k.is) parts.0

pub returns-in_err-print_line : goal.returns-in_err-print_line
returns-in_err-print_line g c = goes_cut _ _ _ _ _ _ _ _ _ c.loop-k.invariant.goes
    (diagnosis_lines-more c.args.system.now (c.args.first + c.loop-k.k) c.args.diagnoses.now c.loop-k.k c.index-diagnoses-k.result c.loop-k-test.true c.index-diagnoses-k.is)
    c.from_residual.ensures.1 c.in_err-print_line.ensures

pub loop-k-preserved : goal.loop-k-preserved
loop-k-preserved g c =
    let next : c.args.first + c.loop-k.k + 1 ≡ c.args.first + (c.loop-k.k + 1) = omega arith in
    record {
      goes = goes_on _ _ _ _ _ _ _ _ c.loop-k.invariant.goes
          (diagnosis_lines-more c.args.system.now (c.args.first + c.loop-k.k) c.args.diagnoses.now c.loop-k.k c.index-diagnoses-k.result c.loop-k-test.true c.index-diagnoses-k.is
          ∙ ap (λ n. diagnosis_line c.args.system.now (c.args.first + c.loop-k.k) c.index-diagnoses-k.result ++ diagnosis_lines c.args.system.now n (drop (c.loop-k.k + 1) c.args.diagnoses.now)) next)
          c.in_ok-print_line.ensures;
      within = (subst (AllByRecursion (IsOfSystem c.args.system.now)) (drop_more c.args.diagnoses.now c.loop-k.k c.index-diagnoses-k.result c.loop-k-test.true) c.loop-k.invariant.within).1;
    }

pub returns : goal.returns
returns g c =
    let none = drop_all c.loop-k.k c.args.diagnoses.now (omega arith) in
    c.loop-k.invariant.goes _ _ (rw none (writes_nothing _ _))
