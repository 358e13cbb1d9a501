use Rattle.std.proofs.Common.{◌≡◌, ◌<◌, ◌≤◌, ◌^◌, ◌∙◌, ◌+◌, ℕ, List, length, map, refl, sym, ap, subst, arith}
use Rattle.std.proofs.lemmas.List.{length-map, map_push}
use Rattle.mcs_sets.specs.Sets.{Within}
use Rattle.mcs_system.specs.Plain.{Default, Formula, Item}
use Rattle.mcs_system.specs.Seen.{default_of, formula_of}
use Rattle.mcs_trace.specs.Clauses.{ClauseList}
use Rattle.mcs_evidence.specs.Defaults.{Verdict, verdict_of, IsAcceptedDefault}
use Rattle.mcs_grounding.specs.Theories.{AreParts}
use Rattle.mcs_default.specs.Told.{with_view}
use Rattle.mcs_evidence.specs.Theories.{all_of}
use Rattle.mcs_default.specs.Told.{IsSetJudged}
use Rattle.mcs_default.proofs.JudgeLemmas.{AreJudged, judged-none, judged-more, judged-all, numbered_within}
use Rattle.mcs_default.proofs.listing.judge_all.Goals as goal

pub judge-requires-clause-room : goal.judge-requires-clause-room
judge-requires-clause-room c = subst (λ (x : ClauseList). length c.args.theory.now.asked.now.atoms.now ≤ x.vars) (sym c.loop-number.invariant.kept) c.requires.room

pub judge-requires-clause-set : goal.judge-requires-clause-set
judge-requires-clause-set c =
    let ds : List Default = map (λ d. default_of d.now) c.args.theory.now.defaults.now in
    let small : c.loop-number.number < 2 ^ length ds = subst (λ (n : ℕ). c.loop-number.number < 2 ^ n) (sym (length-map c.args.theory.now.defaults.now (λ d. default_of d.now))) (subst (λ (n : ℕ). c.loop-number.number < n) c.set_count-number-end.ensures c.loop-number-test.true) in
    subst (λ (s : ℕ). Within s (all_of ds)) (sym c.numbered-set.ensures) (numbered_within c.loop-number.number ds small)

pub loop-number-init : goal.loop-number-init
loop-number-init c = rw (c.new-views.ensures.items, c.new-sets.ensures.items) (record { kept = refl; judged = λ items parts. judged-none c.args.theory.now.asked.now.atoms.now items (map (λ b. formula_of b.now) c.args.theory.now.asked.now.beliefs.now) })

pub loop-number-preserved : goal.loop-number-preserved
loop-number-preserved c =
    let names = c.args.theory.now.asked.now.atoms.now in
    let ds : List Default = map (λ d. default_of d.now) c.args.theory.now.defaults.now in
    let beliefs : List Formula = map (λ b. formula_of b.now) c.args.theory.now.asked.now.beliefs.now in
    let n = c.loop-number.number in
    let judged = c.in_ok-judged.judged in
    record {
      kept = c.in_ok-judged.ensures.kept ∙ c.loop-number.invariant.kept;
      judged = λ items parts.
          (let verdict = subst (λ (s : ℕ). IsSetJudged names items beliefs s judged) c.numbered-set.ensures (c.in_ok-judged.ensures.judged items (subst (AreParts names items ds) (sym c.loop-number.invariant.kept) parts)) in
          subst (λ (xs : List ℕ). AreJudged names items beliefs (n + 1) xs (map verdict_of c.push.new.self.items)) (sym c.in_ok-push_view.ensures)
          (subst (λ (vs : List Verdict). AreJudged names items beliefs (n + 1) (with_view c.loop-number.views.items judged.view) vs) (sym (ap (map verdict_of) c.in_ok-push.ensures.items ∙ map_push verdict_of c.loop-number.sets.items judged.verdict))
          (judged-more names items beliefs n c.loop-number.views.items (map verdict_of c.loop-number.sets.items) (verdict_of judged.verdict) judged.view verdict (c.loop-number.invariant.judged items parts))));
    }

pub returns : goal.returns
returns c =
    let ds : List Default = map (λ d. default_of d.now) c.args.theory.now.defaults.now in
    let beliefs : List Formula = map (λ b. formula_of b.now) c.args.theory.now.asked.now.beliefs.now in
    let all : c.loop-number.number ≡ 2 ^ length ds = (let e : length ds ≡ length c.args.theory.now.defaults.now = length-map c.args.theory.now.defaults.now (λ d. default_of d.now) in let p : 2 ^ length ds ≡ 2 ^ length c.args.theory.now.defaults.now = ap (λ (n : ℕ). 2 ^ n) e in omega (arith, c.set_count-number-end.ensures, c.loop-number-test.false)) in
    let accepted : (items : List Item) → AreParts c.args.theory.now.asked.now.atoms.now items ds c.args.known.now → IsAcceptedDefault c.args.theory.now.asked.now.atoms.now items beliefs c.list_states.new.states.items (map verdict_of c.loop-number.sets.items) =
    λ items parts. judged-all c.args.theory.now.asked.now.atoms.now items beliefs c.loop-number.number c.loop-number.views.items c.list_states.new.states.items (map verdict_of c.loop-number.sets.items) ds parts.0 all (c.loop-number.invariant.judged items parts) c.list_states.ensures in
    record { accepted = accepted }
