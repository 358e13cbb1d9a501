use Rattle.std.proofs.Common.{◌≡◌, ◌<◌, ◌∙◌, ℕ, map, ap, arith, subst}
use Rattle.std.proofs.lemmas.List.{take_all}
use Rattle.mcs_base.specs.Listings.{IsAmong, IsListing}
use Rattle.mcs_import.proofs.QuestionLemmas.{applying}
use Rattle.mcs_import.proofs.question.applicable_sets.Goals as goal

pub returns : goal.returns
returns c =
    let whole : c.loop-state.sets.items ≡ map (applying c.args.system.now c.args.i) c.args.states.now =
    c.loop-state.invariant ∙ ap (map (applying c.args.system.now c.args.i)) (take_all c.loop-state.state-index c.args.states.now (omega arith)) in
    subst (λ xs. IsListing (λ a. IsAmong a xs) (λ (a b : ℕ). a < b) c.list_rule_sets.new.sets.items) whole c.list_rule_sets.ensures
