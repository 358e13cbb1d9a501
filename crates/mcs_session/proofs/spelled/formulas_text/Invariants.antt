use Rattle.std.proofs.Common.{◌≡◌, ◌++◌, drop, map}
use Rattle.mcs_system.specs.Seen.{formula_of}
use Rattle.mcs_session.specs.KeyTexts.{formulas_text}
use Rattle.mcs_session.proofs.spelled.formulas_text.Given as goal

-- with those of the formulas that are still to come the text is whole
abbrev pub invariant-loop-formula : goal.invariant-loop-formula
invariant-loop-formula l = l.text.items ++ formulas_text (map (λ f. formula_of f.now) (drop l.formula-index l.formulas)) ≡ formulas_text (map (λ f. formula_of f.now) l.formulas)
