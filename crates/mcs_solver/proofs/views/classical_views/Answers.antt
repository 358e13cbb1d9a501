use Rattle.std.proofs.Common.{◌≡◌, ◌∙◌, ◌++◌, ℕ, List, [], ◌∷◌, length, map, sym, ap, subst, arith}
use Rattle.std.proofs.lemmas.Bool.Decides.{nat_tests}
use Rattle.std.proofs.lemmas.Grind.{common_steps}
use Rattle.std.proofs.lemmas.Result.{IfOk-weaker}
use Rattle.mcs_system.specs.Plain.{Classical}
use Rattle.mcs_system.specs.Seen.{formula_of}
use Rattle.mcs_solver.specs.Questions.{asked_names, asked_beliefs, asked_heads, AreAnswer, IsAnswerShown}
use Rattle.mcs_solver.proofs.ViewLemmas.{no_beliefs}
use Rattle.mcs_solver.proofs.views.classical_views.Goals as goal

pub returns-in-Ok-clause-exact : goal.returns-in-Ok-clause-exact
returns-in-Ok-clause-exact c =
    let q = c.args.question.now in
    let fs = map formula_of c.args.formulas.now in
    let pushed = c.in-Ok.ensures.items ∙ ap (λ (xs : List ℕ). xs ++ c.in_ok-view.view ∷ []) c.new-views.ensures.items in
    subst (AreAnswer q (Classical fs)) (sym pushed) c.in_ok-view.ensures.exact

pub returns-in-Ok-clause-certified : goal.returns-in-Ok-clause-certified
returns-in-Ok-clause-certified c =
    let q = c.args.question.now in
    let fs = map formula_of c.args.formulas.now in
    let pushed = c.in-Ok.ensures.items ∙ ap (λ (xs : List ℕ). xs ++ c.in_ok-view.view ∷ []) c.new-views.ensures.items in
    subst (λ (xs : List ℕ). IsAnswerShown q (Classical fs) xs c.in_ok-view.cert) (sym pushed) c.in_ok-view.ensures.certified

pub returns-then-is_empty-clause-exact : goal.returns-then-is_empty-clause-exact
returns-then-is_empty-clause-exact c =
    let q = c.args.question.now in
    let empty : length q.given.now.asked.now.beliefs.now ≡ 0 = grind (arith, nat_tests, common_steps, c.is_empty.ensures, c.if-is_empty.true) in
    let none : asked_beliefs q ≡ [] = no_beliefs (λ f. formula_of f.now) q.given.now.asked.now.beliefs.now empty in
    rw none (IfOk-weaker c.view_of_nothing.result _ _ (λ r all. all (map formula_of c.args.formulas.now ++ asked_heads q)) c.view_of_nothing.ensures.exact)

pub returns-then-is_empty-clause-certified : goal.returns-then-is_empty-clause-certified
returns-then-is_empty-clause-certified c =
    let q = c.args.question.now in
    let empty : length q.given.now.asked.now.beliefs.now ≡ 0 = grind (arith, nat_tests, common_steps, c.is_empty.ensures, c.if-is_empty.true) in
    let none : asked_beliefs q ≡ [] = no_beliefs (λ f. formula_of f.now) q.given.now.asked.now.beliefs.now empty in
    rw none (IfOk-weaker c.view_of_nothing.result _ _ (λ r all. all (asked_names q) (map formula_of c.args.formulas.now ++ asked_heads q)) c.view_of_nothing.ensures.certified)
