use Rattle.std.proofs.Common.{◌≡◌, ◌∙◌, IsTrue, length, map, ap, refl, sym, subst, arith}
use Rattle.mcs_base.proofs.Mapped.{all_from_map}
use Rattle.mcs_system.specs.Plain.{Formula, Classical, DefaultTheory, Program}
use Rattle.mcs_system.specs.Faults.{is_atom}
use Rattle.mcs_system.specs.Seen.{formula_of, item_of, rule_of, kb_of}
use Rattle.mcs_asking.specs.Kinds.{OfFormulas, OfDefaults, OfProgram, IsOverKb, AreOfKind}
use Rattle.mcs_check.proofs.JudgedAnswers.{judged_as}
use Rattle.mcs_check.proofs.judging.judge_answer.Goals as goal

pub invariant_of-named : goal.invariant_of-named
invariant_of-named c = omega (arith, ap length (c.deref.ensures.value ∙ c.in_ok-names.ensures), c.args.question.now.asked.now.few)

pub judge_classical-requires-clause-formulas : goal.judge_classical-requires-clause-formulas
judge_classical-requires-clause-formulas c =
    let q = c.args.question.now in
    let is : kb_of q.kb.now ≡ Classical (map formula_of c.deref-in-Classical.result.now) = ap kb_of c.in-Classical.is ∙ ap (λ fs. Classical (map formula_of fs)) (sym c.deref-in-Classical.ensures.value) in
    subst (IsOverKb q.asked.now.atoms.now) is q.own

pub judge_classical-requires-clause-heads : goal.judge_classical-requires-clause-heads
judge_classical-requires-clause-heads c = c.args.question.now.told

pub judge_extensions-requires-clause-items : goal.judge_extensions-requires-clause-items
judge_extensions-requires-clause-items c = ap kb_of c.in-DefaultTheory.is ∙ ap (λ xs. DefaultTheory (map item_of xs)) (sym c.deref-in-DefaultTheory.ensures.value)

pub judge_extensions-requires-clause-names : goal.judge_extensions-requires-clause-names
judge_extensions-requires-clause-names c = c.deref-in-DefaultTheory-2.ensures.value ∙ c.in_ok-names.ensures

pub judge_program-requires-clause-rules : goal.judge_program-requires-clause-rules
judge_program-requires-clause-rules c =
    let q = c.args.question.now in
    let is : kb_of q.kb.now ≡ Program (map rule_of c.deref-in-Program.result.now) = ap kb_of c.in-Program.is ∙ ap (λ rs. Program (map rule_of rs)) (sym c.deref-in-Program.ensures.value) in
    subst (IsOverKb q.asked.now.atoms.now) is q.own

pub judge_program-requires-clause-heads : goal.judge_program-requires-clause-heads
judge_program-requires-clause-heads c = c.args.question.now.told

pub judge_program-requires-clause-belief_atoms : goal.judge_program-requires-clause-belief_atoms
judge_program-requires-clause-belief_atoms c =
    let q = c.args.question.now in
    all_from_map (λ (f : Formula). IsTrue (is_atom f)) (λ f. formula_of f.now) q.asked.now.beliefs.now (subst (λ k. AreOfKind (kb_of k) (map (λ f. formula_of f.now) q.asked.now.beliefs.now)) c.in-Program.is q.kinds)

pub returns-in-Classical : goal.returns-in-Classical
returns-in-Classical c =
    let q = c.args.question.now in
    let words : c.deref.result.now ≡ q.asked.now.atoms.now = c.deref.ensures.value ∙ c.in_ok-names.ensures in
    judged_as q.asked.now.atoms.now c.deref.result.now c.args.numbers.now words (map (λ f. formula_of f.now) q.heads.now) (map (λ f. formula_of f.now) q.asked.now.beliefs.now) (length q.asked.now.beliefs.now) c.args.count (kb_of q.kb.now) c.judge_classical.result c.judge_classical.new.lines c.args.lines.now
    OfFormulas (Classical (map formula_of c.deref-in-Classical.result.now)) (ap kb_of c.in-Classical.is ∙ ap (λ fs. Classical (map formula_of fs)) (sym c.deref-in-Classical.ensures.value)) _ refl c.judge_classical.ensures

pub returns-in-DefaultTheory : goal.returns-in-DefaultTheory
returns-in-DefaultTheory c =
    let q = c.args.question.now in
    judged_as q.asked.now.atoms.now q.asked.now.atoms.now c.args.numbers.now refl (map (λ f. formula_of f.now) q.heads.now) (map (λ f. formula_of f.now) q.asked.now.beliefs.now) (length q.asked.now.beliefs.now) c.args.count (kb_of q.kb.now) c.judge_extensions.result c.judge_extensions.new.lines c.args.lines.now
    OfDefaults (DefaultTheory (map item_of c.deref-in-DefaultTheory.result.now)) (ap kb_of c.in-DefaultTheory.is ∙ ap (λ xs. DefaultTheory (map item_of xs)) (sym c.deref-in-DefaultTheory.ensures.value)) _ refl c.judge_extensions.ensures

pub returns : goal.returns
returns c =
    let q = c.args.question.now in
    let words : c.deref.result.now ≡ q.asked.now.atoms.now = c.deref.ensures.value ∙ c.in_ok-names.ensures in
    judged_as q.asked.now.atoms.now c.deref.result.now c.args.numbers.now words (map (λ f. formula_of f.now) q.heads.now) (map (λ f. formula_of f.now) q.asked.now.beliefs.now) (length q.asked.now.beliefs.now) c.args.count (kb_of q.kb.now) c.judge_program.result c.judge_program.new.lines c.args.lines.now
    OfProgram (Program (map rule_of c.deref-in-Program.result.now)) (ap kb_of c.in-Program.is ∙ ap (λ rs. Program (map rule_of rs)) (sym c.deref-in-Program.ensures.value)) _ refl c.judge_program.ensures
