use Rattle.std.proofs.Common.{◌≡◌, ℕ, ◌<◌, List, subst, rules}
use Rattle.mcs_base.specs.Listings.{IsAmong, IsListing}
use Rattle.mcs_proof_writer.proofs.asking.asked.Goals as goal

pub returns : goal.returns
returns c =
    let copied : c.in_ok-sets.sets.items ≡ c.args.solver.now.journal = search rules in
    subst (λ (js : List ℕ). IsListing (λ x. IsAmong x js) (λ a b. a < b) c.list_rule_sets.new.sets.items) copied c.list_rule_sets.ensures
