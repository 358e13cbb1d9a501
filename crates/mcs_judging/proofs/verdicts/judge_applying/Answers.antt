use Rattle.std.proofs.Common.{◌≡◌, ◌∙◌, [], ◌∷◌, List, ◌-◌, ◌↔◌, IsTrue, slice_index, map, length, ap, subst}
use Rattle.mcs_system.specs.Plain.{Formula, Default}
use Rattle.mcs_system.specs.Seen.{default_of, formula_of}
use Rattle.mcs_cnf.proofs.GrowingLemmas.{room_known}
use Rattle.mcs_evidence.specs.Defaults.{generated, negated_justs, AreDenied}
use Rattle.mcs_asked.proofs.QuestionLemmas.{defaults_over}
use Rattle.mcs_extensions.proofs.VerdictLemmas.{numbered_over}
use Rattle.mcs_proof_lines.specs.Verdicts.{terms_of}
use Rattle.mcs_asked.specs.Questions.{theory_names, theory_beliefs, theory_defaults, theory_items}
use Rattle.mcs_judging.proofs.Places.{own_counts, one_justs}
use Rattle.mcs_judging.proofs.Readings.{told_err}
use Rattle.mcs_judging.proofs.VerdictLemmas.{applied_unread, justs_unread, applied_told, applied_judged}
use Rattle.mcs_judging.proofs.verdicts.judge_applying.Goals as goal

pub judge_yes-requires-clause-room : goal.judge_yes-requires-clause-room
judge_yes-requires-clause-room c = room_known (theory_names c.args.reading.now.theory.now) c.args.known.now (generated (theory_items c.args.reading.now.theory.now) c.args.set) c.requires.made

pub judge_yes-requires-clause-goal : goal.judge_yes-requires-clause-goal
judge_yes-requires-clause-goal c =
    (numbered_over (theory_names c.args.reading.now.theory.now) (theory_defaults c.args.reading.now.theory.now) c.args.number (default_of c.default_numbered-default.result.now) (defaults_over c.args.reading.now.theory.now) c.default_numbered-default.ensures).0

pub returns-in_err-shown-clause-exact : goal.returns-in_err-shown-clause-exact
returns-in_err-shown-clause-exact c =
    told_err _ _ _ _ _ c.from_residual-in_err-shown.ensures.1
    (applied_unread (terms_of c.args.reading.now.terms.now) (theory_names c.args.reading.now.theory.now) (theory_items c.args.reading.now.theory.now) (theory_beliefs c.args.reading.now.theory.now) c.args.set c.args.number c.args.lines.now _
    (c.in_err-shown.ensures.exact (generated (theory_items c.args.reading.now.theory.now) c.args.set) c.requires.made))

pub returns-in_err-allowed-clause-exact : goal.returns-in_err-allowed-clause-exact
returns-in_err-allowed-clause-exact c =
    let names = theory_names c.args.reading.now.theory.now in
    let items = theory_items c.args.reading.now.theory.now in
    let beliefs : List Formula = theory_beliefs c.args.reading.now.theory.now in
    let t = terms_of c.args.reading.now.terms.now in
    let ds : List Default = theory_defaults c.args.reading.now.theory.now in
    let d : Default = default_of c.default_numbered-default.result.now in
    let many : length (negated_justs (d ∷ [])) ≡ slice_index t.justs (c.args.number - 1) = one_justs ds t.justs (own_counts c.args.reading.now) c.args.number d c.default_numbered-default.ensures in
    let h = c.in_ok-shown.ensures.exact (generated items c.args.set) c.requires.made in
    told_err _ _ _ _ _ c.from_residual-in_err-allowed.ensures.1
    (justs_unread t names items beliefs c.args.set c.args.number c.args.lines.now (length (negated_justs (d ∷ []))) many h.value c.judge_yes.new.lines h.is _ c.in_err-allowed.ensures)

pub returns-clause-exact : goal.returns-clause-exact
returns-clause-exact c =
    let names = theory_names c.args.reading.now.theory.now in
    let items = theory_items c.args.reading.now.theory.now in
    let beliefs : List Formula = theory_beliefs c.args.reading.now.theory.now in
    let t = terms_of c.args.reading.now.terms.now in
    let ds : List Default = theory_defaults c.args.reading.now.theory.now in
    let d : Default = default_of c.default_numbered-default.result.now in
    let many : length (negated_justs (d ∷ [])) ≡ slice_index t.justs (c.args.number - 1) = one_justs ds t.justs (own_counts c.args.reading.now) c.args.number d c.default_numbered-default.ensures in
    let h = c.in_ok-shown.ensures.exact (generated items c.args.set) c.requires.made in
    let h' = c.in_ok-allowed.ensures in
    let allowed : IsTrue c.in_ok-allowed.allowed ↔ AreDenied names (generated items c.args.set) (negated_justs (d ∷ [])) h'.value =
    subst (λ (fs : List Formula). IsTrue c.in_ok-allowed.allowed ↔ AreDenied names fs (negated_justs (d ∷ [])) h'.value) (ap (map (λ f. formula_of f.now)) c.deref.ensures.value ∙ c.in_ok-premises.ensures) h'.right in
    applied_told t names items beliefs c.args.set c.args.number c.args.lines.now (length (negated_justs (d ∷ []))) many h.value c.judge_yes.new.lines h.is c.judged_by.result c.judge_justs.new.lines h'.value h'.is
    (rw c.judged_by.ensures (applied_judged names items beliefs c.args.set ds c.args.reading.now.theory.now.are c.args.number d c.default_numbered-default.ensures h.value h'.value c.is_member.result c.in_ok-shown.shown c.in_ok-allowed.allowed c.applies.result
    c.is_member.ensures.exact h.right allowed c.applies.ensures))
