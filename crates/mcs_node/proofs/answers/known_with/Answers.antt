use Rattle.std.proofs.Common.{ℕ, ◌<◌, List, map, sym, subst, IfOk}
use Rattle.mcs_base.specs.Listings.{IsListing}
use Rattle.mcs_system.specs.Levels.{IsQuestionAt}
use Rattle.mcs_rows.specs.Local.{AreAnswered}
use Rattle.mcs_rows.specs.Answers.{answered_of}
use Rattle.mcs_node.specs.Known.{AreRight}
use Rattle.mcs_node.proofs.answers.known_with.Goals as goal

pub returns-clause-known : goal.returns-clause-known
returns-clause-known c m level i olds news listed =
    let answered : AreAnswered m level i (map answered_of c.in_ok-answers-2.answers.items) = record {
      questions = subst (λ (xs : List ℕ). IsListing (IsQuestionAt m level i) (λ a b. a < b) xs) (sym c.in_ok-answers-2.ensures.questions) listed;
      parts = c.in_ok-answers-2.ensures.right m i olds (subst (λ r. IfOk r (λ new. AreRight m i (map answered_of new.items))) c.in_ok-answers.was news);
    } in
    record { answered = answered; supplies = c.in_ok-supplies.ensures.supplied m level i (subst (λ xs. AreAnswered m level i (map answered_of xs)) (sym c.deref.ensures.value) answered) }
