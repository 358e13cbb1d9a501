use Rattle.std.proofs.Common.{◌<◌, ℕ}
use Rattle.std.proofs.lemmas.Result.{IfOk-weaker}
use Rattle.mcs_base.specs.Listings.{IsListing}
use Rattle.mcs_system.specs.Levels.{IsQuestionAt}
use Rattle.mcs_import.specs.States.{IsAskedInState}
use Rattle.mcs_import.proofs.OrderLemmas.{import_order_exists}
use Rattle.mcs_import.proofs.StateLemmas.{lists}
use Rattle.mcs_import.proofs.QuestionLemmas.{questions_listed}
use Rattle.mcs_import.proofs.question.questions.Goals as goal

pub returns : goal.returns
returns c =
    let (order, ordered) = import_order_exists c.args.plan.now in
    IfOk-weaker c.asked.result (λ sets. IsListing (IsAskedInState c.system.result.now c.args.i (lists c.args.supplies.now) c.guessed.result c.args.level) (λ (a b : ℕ). a < b) sets.items)
    (λ sets. IsListing (IsQuestionAt c.args.plan.now c.args.level c.args.i) (λ (a b : ℕ). a < b) sets.items)
    (λ sets listing. questions_listed c.args.plan.now order ordered c.args.level c.args.i (lists c.args.supplies.now) (c.requires.supplied order ordered)
    c.system.result.now c.system.ensures c.guessed.result (c.guessed.ensures order ordered) sets.items listing)
    c.asked.ensures
