use Rattle.std.proofs.Common.{rules, tests, sym, ◌∙◌, Bor}
use Rattle.std.proofs.lemmas.Iterator.{YieldsList-from_slice}
use Rattle.std.proofs.lemmas.Iterator.Search.{all_from_yields_List}
use Rattle.std.proofs.lemmas.List.Folds.{list_all-map}
use Rattle.mcs_system.specs.Seen.{formula_of}
use Rattle.mcs_system.specs.Logic.{holds, true_names}
use Rattle.mcs_system.specs.declared.formula.Formula as code
use Rattle.mcs_entailment.proofs.entailment.hold_at.Goals as goal

pub returns : goal.returns
returns c = all_from_yields_List (λ (f : Bor code.Formula). holds (true_names 0 c.args.atoms.now c.args.values) (formula_of f.now)) _ _ c.all.result c.all.ensures.ran (YieldsList-from_slice c.args.formulas.now c.iter.ensures.rest) (λ x b q k. search (rules, tests))
    ∙ sym (list_all-map (holds (true_names 0 c.args.atoms.now c.args.values)) (λ (f : Bor code.Formula). formula_of f.now) c.args.formulas.now)
