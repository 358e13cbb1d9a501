use Rattle.std.proofs.Common.{ℕ, List, IsTrue, ◌↔◌, subst}
use Rattle.std.proofs.lemmas.Bool.{iff_false}
use Rattle.std.proofs.lemmas.Result.{IfOk-weaker}
use Rattle.mcs_base.proofs.Booleans.{false_tells, iff_trans}
use Rattle.mcs_system.specs.Plain.{Formula}
use Rattle.mcs_evidence.specs.Defaults.{absence_of, generated, IsAbsent}
use Rattle.mcs_asked.specs.Questions.{theory_names, theory_items}
use Rattle.mcs_extensions.specs.Checks.{number_in, IsNumberIn}
use Rattle.mcs_extensions.proofs.VerdictLemmas.{failed_not, failed_iff}
use Rattle.mcs_extensions.proofs.verdict.has_failed.Goals as goal

pub returns-then-not-is_member-clause-exact : goal.returns-then-not-is_member-clause-exact
returns-then-not-is_member-clause-exact c =
    false_tells (failed_not (theory_names c.args.theory.now) (theory_items c.args.theory.now) c.args.set (absence_of c.args.absence.now)
    (subst (λ (n : ℕ). ¬ IsNumberIn c.args.set n) c.number_of-number.ensures (iff_false c.is_member.ensures.exact c.if-not-is_member.true)))

pub is_absent-requires : goal.is_absent-requires
is_absent-requires c = c.requires.made

pub returns-clause-exact : goal.returns-clause-exact
returns-clause-exact c = IfOk-weaker c.is_absent.result _ _ (λ yes told. (
    let names = theory_names c.args.theory.now in
    let items = theory_items c.args.theory.now in
    let absence = absence_of c.args.absence.now in
    let there : IsNumberIn c.args.set (number_in absence) = subst (IsNumberIn c.args.set) c.number_of-number.ensures (c.is_member.ensures.exact.0 c.if-not-is_member.false) in
    let here : IsTrue yes ↔ IsAbsent names items (generated items c.args.set) (number_in absence) absence =
    subst (λ (n : ℕ). IsTrue yes ↔ IsAbsent names items (generated items c.args.set) n absence) c.number_of-number.ensures
    (subst (λ (fs : List Formula). IsTrue yes ↔ IsAbsent names items fs c.number_of-number.result absence) c.requires.are told) in
    iff_trans here (failed_iff names items c.args.set absence there))) c.is_absent.ensures.exact
