use Rattle.std.proofs.Common.{false, List, map, IsTrue, ◌↔◌, sym, subst}
use Rattle.std.proofs.lemmas.Result.{IfOk-weaker}
use Rattle.mcs_base.proofs.Booleans.{false_tells}
use Rattle.mcs_system.specs.Plain.{Formula}
use Rattle.mcs_system.specs.Seen.{default_of, formula_of}
use Rattle.mcs_trace.specs.declared.certificate.Outside.{Outside}
use Rattle.mcs_evidence.specs.Defaults.{absence_of, IsAbsent}
use Rattle.mcs_cnf.specs.Entailments.{entailment_of}
use Rattle.mcs_cnf.proofs.GrowingLemmas.{room_known}
use Rattle.mcs_asked.specs.Questions.{theory_names, theory_defaults, theory_items}
use Rattle.mcs_asked.proofs.QuestionLemmas.{defaults_over}
use Rattle.mcs_extensions.proofs.VerdictLemmas.{absent_none, unsupported_iff, blocked_iff, numbered_over}
use Rattle.mcs_extensions.proofs.absence.is_absent.Goals as goal

pub is_blocked-requires-clause-room : goal.is_blocked-requires-clause-room
is_blocked-requires-clause-room c = room_known (theory_names c.args.theory.now) c.args.known.now (map (λ f. formula_of f.now) c.args.premises.now) c.requires

pub is_blocked-requires-clause-over : goal.is_blocked-requires-clause-over
is_blocked-requires-clause-over c =
    let t = c.args.theory.now in
    (numbered_over (theory_names t) (theory_defaults t) c.args.number (default_of c.in-Some.default.now) (defaults_over t) c.in-Some.ensures).1

pub returns-in_default-clause-exact : goal.returns-in_default-clause-exact
returns-in_default-clause-exact c =
    let t = c.args.theory.now in
    false_tells (absent_none (theory_names t) (theory_items t) (theory_defaults t) t.are (map (λ f. formula_of f.now) c.args.premises.now) c.args.number (absence_of c.args.absence.now) c.in_default.ensures)

pub returns-then-told-number-clause-exact : goal.returns-then-told-number-clause-exact
returns-then-told-number-clause-exact c =
    let t = c.args.theory.now in
    let fs : List Formula = map (λ f. formula_of f.now) c.args.premises.now in
    subst (λ (o : Outside). IsTrue false ↔ IsAbsent (theory_names t) (theory_items t) fs c.args.number (absence_of o)) (sym c.in-Unsupported.is)
    (false_tells (λ h. c.if-told-number.true ((unsupported_iff (theory_names t) (theory_items t) (theory_defaults t) t.are fs c.args.number (default_of c.in-Some.default.now) c.in-Some.ensures c.in-Unsupported.told (entailment_of c.in-Unsupported.entail)).0 h).0))

pub returns-else-told-number-clause-exact : goal.returns-else-told-number-clause-exact
returns-else-told-number-clause-exact c =
    let t = c.args.theory.now in
    let fs : List Formula = map (λ f. formula_of f.now) c.args.premises.now in
    let iff = unsupported_iff (theory_names t) (theory_items t) (theory_defaults t) t.are fs c.args.number (default_of c.in-Some.default.now) c.in-Some.ensures c.in-Unsupported.told (entailment_of c.in-Unsupported.entail) in
    subst (λ (o : Outside). IsTrue c.denies.result ↔ IsAbsent (theory_names t) (theory_items t) fs c.args.number (absence_of o)) (sym c.in-Unsupported.is)
    (λ h. iff.1 (c.if-told-number.false, c.denies.ensures.0 h), λ h. c.denies.ensures.1 (iff.0 h).1)

pub returns-then-told-number-2-clause-exact : goal.returns-then-told-number-2-clause-exact
returns-then-told-number-2-clause-exact c =
    let t = c.args.theory.now in
    let fs : List Formula = map (λ f. formula_of f.now) c.args.premises.now in
    subst (λ (o : Outside). IsTrue false ↔ IsAbsent (theory_names t) (theory_items t) fs c.args.number (absence_of o)) (sym c.in-Blocked.is)
    (false_tells (λ h. c.if-told-number-2.true ((blocked_iff (theory_names t) (theory_items t) (theory_defaults t) t.are fs c.args.number (default_of c.in-Some.default.now) c.in-Some.ensures c.in-Blocked.told c.in-Blocked.just (entailment_of c.in-Blocked.entail)).0 h).0))

pub returns-else-told-number-2-clause-exact : goal.returns-else-told-number-2-clause-exact
returns-else-told-number-2-clause-exact c = IfOk-weaker c.is_blocked.result _ _ (λ yes told. (
    let t = c.args.theory.now in
    let fs : List Formula = map (λ f. formula_of f.now) c.args.premises.now in
    let iff = blocked_iff (theory_names t) (theory_items t) (theory_defaults t) t.are fs c.args.number (default_of c.in-Some.default.now) c.in-Some.ensures c.in-Blocked.told c.in-Blocked.just (entailment_of c.in-Blocked.entail) in
    let here = told fs c.requires in
    subst (λ (o : Outside). IsTrue yes ↔ IsAbsent (theory_names t) (theory_items t) fs c.args.number (absence_of o)) (sym c.in-Blocked.is)
    (λ h. iff.1 (c.if-told-number-2.false, here.0 h), λ h. here.1 (iff.0 h).1))) c.is_blocked.ensures.exact
