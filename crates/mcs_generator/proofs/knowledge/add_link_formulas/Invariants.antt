use Rattle.std.proofs.Common.{◌≡◌, ◌-◌, ◌++◌, map}
use Rattle.std.specs.List.{range_with_len}
use Rattle.mcs_system.specs.Seen.{formula_of}
use Rattle.mcs_generator.specs.Generated.{link_formula}
use Rattle.mcs_generator.proofs.knowledge.add_link_formulas.Given as goal

abbrev pub invariant-loop-link : goal.invariant-loop-link
invariant-loop-link l = map formula_of l.formulas.items ≡ map formula_of l.fn.formulas.items ++ map link_formula (range_with_len 2 (l.link - 2))
