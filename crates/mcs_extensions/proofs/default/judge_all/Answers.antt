use Rattle.std.proofs.Common.{◌≡◌, ◌∙◌, ◌^◌, ℕ, List, length, map, take, refl, ap, sym, subst, arith}
use Rattle.std.proofs.lemmas.List.{length-map, length-take-le, take_all}
use Rattle.mcs_base.proofs.Mapped.{map-take_read, slice_get-map_read}
use Rattle.mcs_trace.specs.declared.certificate.SetCert.{SetCert}
use Rattle.mcs_evidence.specs.Defaults.{Verdict, verdict_of}
use Rattle.mcs_asked.specs.Questions.{theory_names, theory_beliefs, theory_items}
use Rattle.mcs_asked.proofs.QuestionLemmas.{defaults_counted}
use Rattle.mcs_extensions.specs.Checks.{IsVerdictJudged}
use Rattle.mcs_extensions.specs.declared.verdict.Judged.{Judged}
use Rattle.mcs_extensions.proofs.JudgingLemmas.{AreJudged, judged_none, judged_passed, judged_shows, all_judged, one_refused}
use Rattle.mcs_extensions.proofs.default.judge_all.Goals.{in-Passed, in-Shows+in_ok-push-in-Shows}
use Rattle.mcs_extensions.proofs.default.judge_all.Goals as goal

pub returns-then-verdicts-count : goal.returns-then-verdicts-count
returns-then-verdicts-count c = λ views h. (
    let t = c.args.theory.now in
    c.if-verdicts-count.true (sym (length-map c.args.verdicts.now verdict_of) ∙ h.one_each ∙ sym (c.set_count-count.ensures ∙ ap (λ (n : ℕ). 2 ^ n) (defaults_counted t))))

pub loop-number-init : goal.loop-number-init
loop-number-init c =
    let t = c.args.theory.now in
    rw c.new-views.ensures.items (record { kept = refl; judged = judged_none (theory_names t) (theory_items t) (theory_beliefs t) })

pub judge-requires : goal.judge-requires
judge-requires c = c.loop-number.invariant.kept ∙ c.requires

pub returns-in-Refused : goal.returns-in-Refused
returns-in-Refused c = λ views. (
    let t = c.args.theory.now in
    let n = c.loop-number.number in
    let v = c.index-verdicts-number.result in
    let told = subst (λ (j : Judged). IsVerdictJudged (theory_names t) (theory_items t) (theory_beliefs t) n (verdict_of v) j) c.in-Refused.is
    (subst (λ (s : ℕ). IsVerdictJudged (theory_names t) (theory_items t) (theory_beliefs t) s (verdict_of v) c.in_ok-judged.judged) c.numbered-set.ensures c.in_ok-judged.ensures.exact) in
    one_refused (theory_names t) (theory_items t) (theory_beliefs t) views (map verdict_of c.args.verdicts.now) n (verdict_of v) (slice_get-map_read verdict_of c.args.verdicts.now n v c.loop-number-test.true c.index-verdicts-number.is) told)

pub loop-number-preserved : goal.loop-number-preserved
loop-number-preserved c =
    let t = c.args.theory.now in
    let n = c.loop-number.number in
    let v = c.index-verdicts-number.result in
    let vs : List SetCert = c.args.verdicts.now in
    let before = c.loop-number.invariant in
    let front : List Verdict = map verdict_of (take n vs) in
    let many : length front ≡ n = length-map (take n vs) verdict_of ∙ length-take-le n vs (omega (arith, c.loop-number-test.true)) in
    let more = sym (map-take_read verdict_of vs n v c.loop-number-test.true c.index-verdicts-number.is) in
    let told = subst (λ (s : ℕ). IsVerdictJudged (theory_names t) (theory_items t) (theory_beliefs t) s (verdict_of v) c.in_ok-judged.judged) c.numbered-set.ensures c.in_ok-judged.ensures.exact in
    elim c.match-judged.branch [
      | in-Passed w ↦ rw w.views-is (record {
        kept = c.in_ok-judged.ensures.kept ∙ before.kept;
        judged = subst (AreJudged (theory_names t) (theory_items t) (theory_beliefs t) c.loop-number.views.items) more (judged_passed (theory_names t) (theory_items t) (theory_beliefs t) c.loop-number.views.items front before.judged n many (verdict_of v)
            (subst (λ (j : Judged). IsVerdictJudged (theory_names t) (theory_items t) (theory_beliefs t) n (verdict_of v) j) w.in-Passed.is told));
      })
      | in-Shows+in_ok-push-in-Shows w ↦ rw w.views-is (record {
        kept = c.in_ok-judged.ensures.kept ∙ before.kept;
        judged = subst (AreJudged (theory_names t) (theory_items t) (theory_beliefs t) w.push.new.self.items) more (judged_shows (theory_names t) (theory_items t) (theory_beliefs t) c.loop-number.views.items front before.judged n many (verdict_of v) w.push.new.self.items w.in-Shows.view w.in_ok-push-in-Shows.ensures.items
            (subst (λ (j : Judged). IsVerdictJudged (theory_names t) (theory_items t) (theory_beliefs t) n (verdict_of v) j) w.in-Shows.is told));
      })
    ]

pub returns : goal.returns
returns c =
    let t = c.args.theory.now in
    let vs : List SetCert = c.args.verdicts.now in
    let judged = subst (λ (xs : List SetCert). AreJudged (theory_names t) (theory_items t) (theory_beliefs t) c.loop-number.views.items (map verdict_of xs)) (take_all c.loop-number.number vs c.loop-number-test.false) c.loop-number.invariant.judged in
    all_judged (theory_names t) (theory_items t) (theory_beliefs t) c.loop-number.views.items c.list_states.new.states.items (map verdict_of vs) judged
    (length-map vs verdict_of ∙ c.if-verdicts-count.false ∙ c.set_count-count.ensures ∙ ap (λ (n : ℕ). 2 ^ n) (defaults_counted t)) c.list_states.ensures
