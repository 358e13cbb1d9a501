use Rattle.std.proofs.Common.{rules, tests, nat_lt, nat_eq, count_by, length, map, refl, sym, ap, ◌∙◌, arith}
use Rattle.std.proofs.lemmas.Iterator.{YieldsList-from_range}
use Rattle.std.proofs.lemmas.Iterator.Search.{any_from_yields_List}
use Rattle.std.proofs.lemmas.List.{length-map}
use Rattle.std.specs.List.{list_any, range_with_len}
use Rattle.mcs_system.specs.Faults.{exceeds}
use Rattle.mcs_system.specs.Plain.{Bridge}
use Rattle.mcs_system.specs.Seen.{bridge_of, context_of}
use Rattle.mcs_system.proofs.faults.has_crowded_context.Goals as goal

pub returns : goal.returns
unfolding exceeds
returns c = any_from_yields_List (λ i. nat_lt 12 (count_by (λ (b : Bridge). nat_eq b.target i) (map bridge_of c.args.bridges.now))) _ _ c.any.result c.any.ensures.ran
    (YieldsList-from_range 0 (length c.args.contexts.now) (length c.args.contexts.now) refl (omega arith)) (λ x b q k. search (rules, tests))
    ∙ ap (λ n. list_any (λ i. nat_lt 12 (count_by (λ (b : Bridge). nat_eq b.target i) (map bridge_of c.args.bridges.now))) (range_with_len 0 n)) (sym (length-map c.args.contexts.now context_of))
