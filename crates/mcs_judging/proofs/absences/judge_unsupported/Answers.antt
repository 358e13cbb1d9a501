use Rattle.std.proofs.Common.{map, subst, sym, Option, ℕ}
use Rattle.mcs_system.specs.Seen.{default_of, formula_of}
use Rattle.mcs_evidence.specs.Defaults.{Unsupported}
use Rattle.mcs_asked.specs.Questions.{theory_names, theory_defaults, theory_items}
use Rattle.mcs_judging.specs.Theories.{TellsAbsence}
use Rattle.mcs_judging.proofs.AbsenceLemmas.{tells_unsupported}
use Rattle.mcs_judging.proofs.Readings.{told_err}
use Rattle.mcs_judging.proofs.absences.judge_unsupported.Goals as goal

pub returns-in_err-denied : goal.returns-in_err-denied
returns-in_err-denied c = told_err _ _ _ _ _ c.from_residual.ensures.1 c.in_err-denied.ensures.exact

pub returns : goal.returns
returns c =
    let told = c.in_ok-denied.ensures.exact in
    record {
      value = told.value;
      is = told.is;
      fits = subst (λ (o : Option ℕ). TellsAbsence (theory_names c.args.reading.now.theory.now) (theory_items c.args.reading.now.theory.now) (map (λ f. formula_of f.now) c.args.premises.now) o (Unsupported c.args.number told.value)) (sym c.told_if.ensures)
          (tells_unsupported (theory_names c.args.reading.now.theory.now) (theory_items c.args.reading.now.theory.now) (theory_defaults c.args.reading.now.theory.now) c.args.reading.now.theory.now.are (map (λ f. formula_of f.now) c.args.premises.now) c.args.number
          (default_of c.default_numbered-default.result.now) c.default_numbered-default.ensures c.in_ok-denied.denied told.value told.right);
    }
