use Rattle.std.proofs.Common.{◌≡◌, ◌∙◌, ◌↔◌, IsTrue, ℕ, List, map, length, ap, subst, arith}
use Rattle.mcs_sets.specs.Sets.{minus, size}
use Rattle.mcs_system.specs.Plain.{Formula, Default}
use Rattle.mcs_system.specs.Seen.{default_of, formula_of}
use Rattle.mcs_evidence.specs.Defaults.{defaults_of, defaults_at, generated, AreDenied}
use Rattle.mcs_proof_lines.specs.Verdicts.{terms_of}
use Rattle.mcs_asked.specs.Questions.{theory_names, theory_beliefs, theory_defaults, theory_items}
use Rattle.mcs_sets.proofs.Lattice.{minus-lt}
use Rattle.mcs_judging.proofs.Places.{as_many_goals}
use Rattle.mcs_judging.proofs.Readings.{told_err}
use Rattle.mcs_judging.proofs.VerdictLemmas.{ungrounded_unread, ungrounded_told, ungrounded_judged}
use Rattle.mcs_judging.proofs.verdicts.judge_ungrounded.Goals as goal

pub chosen-requires : goal.chosen-requires
chosen-requires c = omega (arith, c.args.reading.now.theory.now.few_defaults)

pub returns-in_err-denied : goal.returns-in_err-denied
returns-in_err-denied c =
    let names = theory_names c.args.reading.now.theory.now in
    let items = theory_items c.args.reading.now.theory.now in
    let beliefs : List Formula = theory_beliefs c.args.reading.now.theory.now in
    let t = terms_of c.args.reading.now.terms.now in
    let others : ℕ = minus c.args.set c.args.part in
    let chosen : map (λ d. default_of d.now) c.deref.result.now ≡ defaults_at 0 (defaults_of items) others =
    ap (map (λ d. default_of d.now)) c.deref.ensures.value ∙ c.in_ok-others.ensures ∙ ap (defaults_at 0 (theory_defaults c.args.reading.now.theory.now)) c.minus.ensures ∙ ap (λ (xs : List Default). defaults_at 0 xs others) c.args.reading.now.theory.now.are in
    let goals : map (λ f. formula_of f.now) c.deref-3.result.now ≡ map (λ (d : Default). d.pre) (defaults_at 0 (defaults_of items) others) =
    ap (map (λ f. formula_of f.now)) c.deref-3.ensures.value ∙ c.in_ok-goals.ensures ∙ ap (map (λ (d : Default). d.pre)) chosen in
    let many : length c.deref-3.result.now ≡ size others = as_many_goals (λ f. formula_of f.now) c.deref-3.result.now items t.justs others goals c.args.reading.now.justs (minus-lt (length t.justs) c.args.set c.args.part c.requires.inside) in
    told_err _ _ _ _ _ c.from_residual-in_err-denied.ensures.1 (ungrounded_unread t names items beliefs c.args.set c.args.part c.args.lines.now (length c.deref-3.result.now) many _ c.in_err-denied.ensures)

pub returns : goal.returns
returns c =
    let names = theory_names c.args.reading.now.theory.now in
    let items = theory_items c.args.reading.now.theory.now in
    let beliefs : List Formula = theory_beliefs c.args.reading.now.theory.now in
    let t = terms_of c.args.reading.now.terms.now in
    let others : ℕ = minus c.args.set c.args.part in
    let chosen : map (λ d. default_of d.now) c.deref.result.now ≡ defaults_at 0 (defaults_of items) others =
    ap (map (λ d. default_of d.now)) c.deref.ensures.value ∙ c.in_ok-others.ensures ∙ ap (defaults_at 0 (theory_defaults c.args.reading.now.theory.now)) c.minus.ensures ∙ ap (λ (xs : List Default). defaults_at 0 xs others) c.args.reading.now.theory.now.are in
    let goals : map (λ f. formula_of f.now) c.deref-3.result.now ≡ map (λ (d : Default). d.pre) (defaults_at 0 (defaults_of items) others) =
    ap (map (λ f. formula_of f.now)) c.deref-3.ensures.value ∙ c.in_ok-goals.ensures ∙ ap (map (λ (d : Default). d.pre)) chosen in
    let many : length c.deref-3.result.now ≡ size others = as_many_goals (λ f. formula_of f.now) c.deref-3.result.now items t.justs others goals c.args.reading.now.justs (minus-lt (length t.justs) c.args.set c.args.part c.requires.inside) in
    let premises : map (λ f. formula_of f.now) c.deref-2.result.now ≡ generated items c.args.part = ap (map (λ f. formula_of f.now)) c.deref-2.ensures.value ∙ c.in_ok-premises.ensures in
    let h = c.in_ok-denied.ensures in
    let denied : IsTrue c.in_ok-denied.denied ↔ AreDenied names (generated items c.args.part) (map (λ (d : Default). d.pre) (defaults_at 0 (defaults_of items) others)) h.value =
    subst (λ (fs : List Formula). IsTrue c.in_ok-denied.denied ↔ AreDenied names fs (map (λ (d : Default). d.pre) (defaults_at 0 (defaults_of items) others)) h.value) premises
    (subst (λ (gs : List Formula). IsTrue c.in_ok-denied.denied ↔ AreDenied names (map (λ f. formula_of f.now) c.deref-2.result.now) gs h.value) goals h.right) in
    ungrounded_told t names items beliefs c.args.set c.args.part c.args.lines.now (length c.deref-3.result.now) many c.judged_by.result c.judge_all_no.new.lines h.value h.is
    (rw c.judged_by.ensures (ungrounded_judged names items beliefs c.args.set c.args.part h.value c.in_ok-denied.denied c.is_stuck.result denied c.is_stuck.ensures))
