use Rattle.std.proofs.Common.{◌≡◌, ◌∙◌, Bor, List, ap, map, sym, subst, IsTrue}
use Rattle.std.specs.List.{AllByRecursion}
use Rattle.mcs_base.proofs.Mapped.{all_from_map}
use Rattle.mcs_system.specs.Plain.{Name, Formula, Atom}
use Rattle.mcs_system.specs.Faults.{is_atom}
use Rattle.mcs_system.specs.Seen.{formula_of}
use Rattle.mcs_classical.proofs.ConsequenceLemmas.{assumed_over}
use Rattle.mcs_solver.specs.Questions.{asked_names, asked_beliefs, asked_heads}
use Rattle.mcs_asking.proofs.AnswerLemmas.{names_over}
use Rattle.mcs_solver.proofs.views.program_views.Goals as goal

pub names_of-requires : goal.names_of-requires
names_of-requires c =
    let q = c.args.question.now in
    let told : map (λ f. formula_of f.now) c.deref.result.now ≡ asked_heads q = ap (map (λ f. formula_of f.now)) c.deref.ensures.value ∙ c.in_ok-heads.ensures in
    all_from_map (λ (f : Formula). IsTrue (is_atom f)) (λ f. formula_of f.now) c.deref.result.now (subst (AllByRecursion (λ (f : Formula). IsTrue (is_atom f))) (sym told) c.requires.heads)

pub names_of-requires-2 : goal.names_of-requires-2
names_of-requires-2 c = all_from_map (λ (f : Formula). IsTrue (is_atom f)) (λ f. formula_of f.now) c.args.question.now.given.now.asked.now.beliefs.now c.requires.beliefs

pub answer_sets_from-requires-clause-added : goal.answer_sets_from-requires-clause-added
answer_sets_from-requires-clause-added c =
    let q = c.args.question.now in
    let told : map (λ f. formula_of f.now) c.deref.result.now ≡ asked_heads q = ap (map (λ f. formula_of f.now)) c.deref.ensures.value ∙ c.in_ok-heads.ensures in
    names_over (asked_names q) (map (λ b. b.now) c.deref-then-question.result.now) (asked_heads q) (ap (λ (ns : List (Bor Name)). map Atom (map (λ b. b.now) ns)) c.deref-then-question.ensures.value ∙ c.in_ok-facts.ensures ∙ told)
    (assumed_over (asked_names q) q.rules q.given.now.assumptions.now q.given.now.over)

pub answer_sets_from-requires-clause-beliefs : goal.answer_sets_from-requires-clause-beliefs
answer_sets_from-requires-clause-beliefs c =
    let q = c.args.question.now in
    names_over (asked_names q) (map (λ b. b.now) c.deref-then-question-2.result.now) (asked_beliefs q) (ap (λ (ns : List (Bor Name)). map Atom (map (λ b. b.now) ns)) c.deref-then-question-2.ensures.value ∙ c.in_ok-asked.ensures) q.given.now.asked.now.over

pub list_answer_sets-requires-clause-added : goal.list_answer_sets-requires-clause-added
list_answer_sets-requires-clause-added c =
    let q = c.args.question.now in
    let told : map (λ f. formula_of f.now) c.deref.result.now ≡ asked_heads q = ap (map (λ f. formula_of f.now)) c.deref.ensures.value ∙ c.in_ok-heads.ensures in
    names_over (asked_names q) (map (λ b. b.now) c.deref-else-question.result.now) (asked_heads q) (ap (λ (ns : List (Bor Name)). map Atom (map (λ b. b.now) ns)) c.deref-else-question.ensures.value ∙ c.in_ok-facts.ensures ∙ told)
    (assumed_over (asked_names q) q.rules q.given.now.assumptions.now q.given.now.over)

pub list_answer_sets-requires-clause-beliefs : goal.list_answer_sets-requires-clause-beliefs
list_answer_sets-requires-clause-beliefs c =
    let q = c.args.question.now in
    names_over (asked_names q) (map (λ b. b.now) c.deref-else-question-2.result.now) (asked_beliefs q) (ap (λ (ns : List (Bor Name)). map Atom (map (λ b. b.now) ns)) c.deref-else-question-2.ensures.value ∙ c.in_ok-asked.ensures) q.given.now.asked.now.over
