use Rattle.std.proofs.Common.{rules}
use Rattle.std.proofs.lemmas.Fn.{always_returns_same}
use Rattle.mcs_table.specs.Partners.{shared_key}
use Rattle.mcs_table.proofs.partners.by_shared.Goals as goal

pub returns-clause-sorted : goal.returns-clause-sorted
returns-clause-sorted c = c.sort_unstable_by_key.ensures.sorted (shared_key c.args.scope) (always_returns_same _ _ _ (λ a r f' k. search rules))
