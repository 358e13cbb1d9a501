use Rattle.std.proofs.Common.{◌≡◌, ◌∷◌, ◌<◌, ◌++◌, ℕ, List, [], map, sym, subst, ap, ◌∙◌}
use Rattle.mcs_sets.specs.Orders.{StateBefore}
use Rattle.mcs_base.specs.Listings.{IsListing}
use Rattle.mcs_system.specs.Plain.{System}
use Rattle.mcs_system.specs.Levels.{IsQuestionAt}
use Rattle.mcs_system.specs.Systems.{IsAcceptedPart}
use Rattle.mcs_rows.specs.Local.{AreAnswered}
use Rattle.mcs_rows.specs.Answers.{answered_of}
use Rattle.mcs_rows.specs.declared.answer.Answer as code
use Rattle.mcs_evaluation_tests.proofs.questions.first_supplies.Goals as goal

pub returns : goal.returns
returns c =
    let m = c.args.plan.now in
    let answer : code.Answer = record { active = c.in-Some.active; parts = c.in_ok-parts.parts } in
    let one : c.in_ok-asked.asked.items ≡ c.in-Some.active ∷ [] = sym c.deref.ensures.value ∙ c.in-Some.ensures in
    let answered : AreAnswered m c.args.level 0 (map answered_of (answer ∷ [])) = record {
      questions = subst (λ (xs : List ℕ). IsListing (IsQuestionAt m c.args.level 0) (λ a b. a < b) xs) one c.in_ok-asked.ensures;
      parts = (subst (λ (s : System). IsListing (IsAcceptedPart s 0 c.in-Some.active) StateBefore c.in_ok-parts.parts.items) c.system.ensures c.in_ok-parts.ensures, tt);
    } in
    c.in_ok-supplies.ensures.supplied m c.args.level 0 (subst (λ (xs : List code.Answer). AreAnswered m c.args.level 0 (map answered_of xs))
    (sym (c.deref-2.ensures.value ∙ (c.in_ok-push.ensures.items ∙ ap (λ (xs : List code.Answer). xs ++ answer ∷ []) c.new-answers.ensures.items))) answered)
