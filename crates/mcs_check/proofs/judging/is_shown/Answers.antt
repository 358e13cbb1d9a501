use Rattle.std.proofs.Common.{◌≡◌, ◌∙◌, ◌↔◌, ◌≤◌, IsTrue, ℕ, List, length, map, ap, sym, subst, arith}
use Rattle.std.proofs.lemmas.List.{length-map}
use Rattle.mcs_system.specs.Plain.{Kb, System}
use Rattle.mcs_system.specs.Atoms.{atoms_of}
use Rattle.mcs_system.specs.Seen.{formula_of, kb_of}
use Rattle.mcs_system.specs.Systems.{variables_of, heads_into}
use Rattle.mcs_system.specs.Views.{at_places, beliefs_at}
use Rattle.mcs_system.proofs.ValidLemmas.{few_variables}
use Rattle.mcs_asking.specs.Kinds.{part_count, IsOverKb, AreOfKind}
use Rattle.mcs_asking.proofs.CoverLemmas.{own_over, heads_over, beliefs_over, few_beliefs}
use Rattle.mcs_asking.proofs.KindItems.{few_parts}
use Rattle.mcs_asking.proofs.KindLemmas.{beliefs_of_kind}
use Rattle.mcs_steps.proofs.Judged.{judged_err}
use Rattle.mcs_check.proofs.JudgedAnswers.{fault_there, refused_there, views_judged}
use Rattle.mcs_check.proofs.judging.is_shown.Goals as goal

pub invariant_of-asked : goal.invariant_of-asked
invariant_of-asked c =
    let m : System = c.args.system.now in
    let i = c.args.question.0 in
    let asked : map (λ f. formula_of f.now) c.deref.result.now ≡ beliefs_at m (variables_of m i) = ap (map (λ f. formula_of f.now)) c.deref.ensures.value ∙ c.in_ok-beliefs.ensures in
    record {
      few = c.atoms_of.ensures.few;
      few_beliefs = omega (arith, ap length asked, length-map c.deref.result.now (λ f. formula_of f.now), few_beliefs m i, few_variables m c.requires.texts.valid);
      over = rw (c.atoms_of.ensures.value, asked) (beliefs_over m i);
    }

pub invariant_of-told : goal.invariant_of-told
invariant_of-told c =
    let m : System = c.args.system.now in
    let i = c.args.question.0 in
    let h = c.requires.kb in
    let valid = c.requires.texts.valid in
    let told : map (λ f. formula_of f.now) c.deref-2.result.now ≡ heads_into m i c.args.question.1 = ap (map (λ f. formula_of f.now)) c.deref-2.ensures.value ∙ c.in_ok-heads.ensures in
    let asked : map (λ f. formula_of f.now) c.deref.result.now ≡ beliefs_at m (variables_of m i) = ap (map (λ f. formula_of f.now)) c.deref.ensures.value ∙ c.in_ok-beliefs.ensures in
    record {
      few_parts = subst (λ (k : Kb). part_count k ≤ 10) h.kb_is (few_parts m valid i h.context h.is_it);
      own = rw c.atoms_of.ensures.value (subst (IsOverKb (atoms_of m i)) h.kb_is (own_over m i h.context h.is_it));
      told = rw (c.atoms_of.ensures.value, told) (heads_over m i c.args.question.1);
      kinds = rw asked (subst (λ (k : Kb). AreOfKind k (beliefs_at m (variables_of m i))) h.kb_is (beliefs_of_kind m valid i h.context h.is_it));
    }

pub judge_answer-requires : goal.judge_answer-requires
judge_answer-requires c = omega (arith, c.requires.texts.numbers, ap length (c.numbers.ensures ∙ c.requires.texts.numbers))

pub returns-in_err-shown : goal.returns-in_err-shown
returns-in_err-shown c =
    let m : System = c.args.system.now in
    let i = c.args.question.0 in
    let told : map (λ f. formula_of f.now) c.deref-2.result.now ≡ heads_into m i c.args.question.1 = ap (map (λ f. formula_of f.now)) c.deref-2.ensures.value ∙ c.in_ok-heads.ensures in
    let asked : map (λ f. formula_of f.now) c.deref.result.now ≡ beliefs_at m (variables_of m i) = ap (map (λ f. formula_of f.now)) c.deref.ensures.value ∙ c.in_ok-beliefs.ensures in
    judged_err _ _ _ _ _ c.from_residual-in_err-shown.ensures.1
    (fault_there m i c.args.question.1 (kb_of c.args.kb.now) c.atoms_of.result.now c.numbers.result.now (map (λ f. formula_of f.now) c.deref-2.result.now) (map (λ f. formula_of f.now) c.deref.result.now) (length c.deref.result.now) (length c.args.outputs.now) c.args.lines.now
    c.atoms_of.ensures.value (c.numbers.ensures ∙ c.requires.texts.numbers) told asked (sym (length-map c.deref.result.now (λ f. formula_of f.now))) _ c.in_err-shown.ensures)

pub returns-in_default : goal.returns-in_default
returns-in_default c =
    let m : System = c.args.system.now in
    let i = c.args.question.0 in
    let told : map (λ f. formula_of f.now) c.deref-2.result.now ≡ heads_into m i c.args.question.1 = ap (map (λ f. formula_of f.now)) c.deref-2.ensures.value ∙ c.in_ok-heads.ensures in
    let asked : map (λ f. formula_of f.now) c.deref.result.now ≡ beliefs_at m (variables_of m i) = ap (map (λ f. formula_of f.now)) c.deref.ensures.value ∙ c.in_ok-beliefs.ensures in
    let none = rw c.in_default.is at c.in_ok-shown.ensures in
    refused_there m i c.args.question.1 (kb_of c.args.kb.now) c.atoms_of.result.now c.numbers.result.now (map (λ f. formula_of f.now) c.deref-2.result.now) (map (λ f. formula_of f.now) c.deref.result.now) (length c.deref.result.now) (length c.args.outputs.now) c.args.lines.now
    c.atoms_of.ensures.value (c.numbers.ensures ∙ c.requires.texts.numbers) told asked (sym (length-map c.deref.result.now (λ f. formula_of f.now))) c.requires.kb c.args.outputs.now c.judge_answer.new.lines none

pub returns : goal.returns
returns c =
    let m : System = c.args.system.now in
    let i = c.args.question.0 in
    let told : map (λ f. formula_of f.now) c.deref-2.result.now ≡ heads_into m i c.args.question.1 = ap (map (λ f. formula_of f.now)) c.deref-2.ensures.value ∙ c.in_ok-heads.ensures in
    let asked : map (λ f. formula_of f.now) c.deref.result.now ≡ beliefs_at m (variables_of m i) = ap (map (λ f. formula_of f.now)) c.deref.ensures.value ∙ c.in_ok-beliefs.ensures in
    let shown = rw c.in-Some.is at c.in_ok-shown.ensures in
    let tells = subst (λ (vs : List ℕ). IsTrue c.in_ok-are_parts.field-0 ↔ (map (at_places (variables_of m i)) vs ≡ c.args.outputs.now)) c.deref-3.ensures.value c.in_ok-are_parts.ensures in
    views_judged m i c.args.question.1 (kb_of c.args.kb.now) c.atoms_of.result.now c.numbers.result.now (map (λ f. formula_of f.now) c.deref-2.result.now) (map (λ f. formula_of f.now) c.deref.result.now) (length c.deref.result.now) (length c.args.outputs.now) c.args.lines.now
    c.atoms_of.ensures.value (c.numbers.ensures ∙ c.requires.texts.numbers) told asked (sym (length-map c.deref.result.now (λ f. formula_of f.now))) c.requires.kb c.args.outputs.now c.judge_answer.new.lines c.requires.texts.valid c.in-Some.views c.in_ok-are_parts.field-0 tells shown
