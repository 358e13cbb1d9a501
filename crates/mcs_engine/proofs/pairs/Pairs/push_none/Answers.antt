use Rattle.std.proofs.Common.{◌≡◌, ◌++◌, ◌∷◌, [], List, ◌∙◌, ap, arith, length}
use Rattle.std.proofs.lemmas.Bool.Decides.{nat_tests}
use Rattle.mcs_engine.specs.declared.watches.Pair.{Pair}
use Rattle.mcs_engine.specs.Pairs.{no_pair}
use Rattle.mcs_engine.proofs.PairsLemmas.{no-items, one-more, size-pairs}
use Rattle.mcs_engine.proofs.pairs.Pairs.push_none.Goals as goal

pub overflow_add-self : goal.overflow_add-self
overflow_add-self c = omega (arith, size-pairs c.self.inside.none c.self.inside.rest.items, ap length c.self.view_is)

pub invariant_of-self : goal.invariant_of-self
invariant_of-self c = omega (arith, size-pairs c.self.inside.none c.self.inside.rest.items, ap length c.self.view_is)

pub returns-then-is_empty-clause-ok : goal.returns-then-is_empty-clause-ok
returns-then-is_empty-clause-ok c =
    let none : length c.self.inside.rest.items ≡ 0 = grind (arith, nat_tests, c.is_empty.ensures, c.if-is_empty.true, c.self.inside.rest.ok.0) in
    one-more c.self.inside.none c.self.inside.rest.items (no-items c.self.inside.rest.items none) ∙ ap (λ (ps : List Pair). ps ++ no_pair ∷ []) c.self.view_is
