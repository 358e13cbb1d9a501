use Rattle.std.proofs.Common.{rules, tests, sym, ◌∙◌}
use Rattle.std.proofs.lemmas.Iterator.{YieldsList-from_slice}
use Rattle.std.proofs.lemmas.Iterator.Search.{any_from_yields_List}
use Rattle.mcs_base.proofs.Lists.{any-map}
use Rattle.mcs_system.specs.Seen.{formula_of}
use Rattle.mcs_system.specs.Systems.{same_formula}
use Rattle.mcs_classical.proofs.among.is_among.Goals as goal

pub returns : goal.returns
returns c = any_from_yields_List (λ f. same_formula (formula_of c.args.goal.now) (formula_of f)) _ _ c.any.result c.any.ensures.ran (YieldsList-from_slice c.args.formulas.now c.iter.ensures.rest) (λ x b q k. search (rules, tests))
    ∙ sym (any-map (same_formula (formula_of c.args.goal.now)) formula_of c.args.formulas.now)
