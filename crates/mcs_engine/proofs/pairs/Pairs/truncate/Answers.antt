use Rattle.std.proofs.Common.{◌++◌, List, ℕ, ap, ◌∙◌, take, min}
use Rattle.mcs_engine.specs.declared.watches.Pair.{Pair}
use Rattle.mcs_engine.specs.Pairs.{no_pairs}
use Rattle.mcs_engine.proofs.PairsLemmas.{first-pairs}
use Rattle.mcs_engine.proofs.pairs.Pairs.truncate.Goals as goal

pub returns : goal.returns
returns c =
    ap (λ (n : ℕ). no_pairs n ++ c.truncate.new.self.items) c.min-self-inside.ensures
    ∙ ap (λ (xs : List Pair). no_pairs (min c.self.inside.none c.args.count) ++ xs) (c.truncate.ensures.items ∙ ap (λ (n : ℕ). take n c.self.inside.rest.items) c.saturating_sub.ensures)
    ∙ first-pairs c.args.count c.self.inside.none c.self.inside.rest.items
    ∙ ap (take c.args.count) c.self.view_is
