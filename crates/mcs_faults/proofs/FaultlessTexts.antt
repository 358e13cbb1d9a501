-- A text that says a valid system has no faults, where it is shallow, its names are short and its atoms bare.
use Rattle.std.proofs.Common.{◌≡◌, ℕ, take, Some, slice_get}
use Rattle.mcs_system.specs.Plain as plain
use Rattle.mcs_system.specs.Faults.{IsValid}
use Rattle.mcs_system.specs.declared.limit.Limit.{Limit}
use Rattle.mcs_system.specs.declared.limit.Limit.TheVariants.{Contexts, Bridges, RulesPerContext, Variables, InputsPerContext, AtomsPerContext, DefaultsPerContext, ItemsPerContext, Weight, FormulaSize, OpenParentheses, NameBytes}
use Rattle.mcs_grammar.specs.Written.{WrittenText, IsText}
use Rattle.mcs_grammar.specs.Entries.{Entry, text_entries, uses_of}
use Rattle.mcs_grammar.specs.Saying.{SaysSystem}
use Rattle.mcs_grammar.specs.Faults.{NoGrammar, NoContext, Twin, NoAtom, Exceeds, ExceedsLimit}
use Rattle.mcs_faults.proofs.Within.{NoFaults}
use Rattle.mcs_faults.proofs.UsesLemmas.{IsShallow}
use Rattle.mcs_faults.proofs.TextConditions.{HasShortNames, HasBareAtoms}
use Rattle.mcs_faults.proofs.FaultlessNames.{no-context, no-twin, no-wrong-atom}
use Rattle.mcs_faults.proofs.FaultlessCounts.{few-contexts, few-bridges, few-rules, few-defaults, few-items, light-weights}
use Rattle.mcs_faults.proofs.FaultlessReads.{few-variables, few-inputs}
use Rattle.mcs_faults.proofs.FaultlessAtoms.{few-atoms}
use Rattle.mcs_faults.proofs.FaultlessSizes.{small-formulas, few-parentheses, short-names}

module _ (t : WrittenText) (m : plain.System) (grammar : IsText t) (says : SaysSystem t m) (valid : IsValid m) (shallow : IsShallow t) (short : HasShortNames t) (bare : HasBareAtoms t) where
  within-limits : (k : ℕ) (here : Entry) → slice_get (text_entries t) k ≡ Some here → (limit : Limit) → ¬ ExceedsLimit limit (uses_of (take k (text_entries t))) here
  within-limits k here is Contexts = few-contexts t m says valid k here is
  within-limits k here is Bridges = few-bridges t m says valid k here is
  within-limits k here is RulesPerContext = few-rules t m says valid k here is
  within-limits k here is Variables = few-variables t m says valid k here is
  within-limits k here is InputsPerContext = few-inputs t m says valid k here is
  within-limits k here is AtomsPerContext = few-atoms t m says valid k here is
  within-limits k here is DefaultsPerContext = few-defaults t m says valid k here is
  within-limits k here is ItemsPerContext = few-items t m says valid k here is grammar
  within-limits k here is Weight = light-weights t m says valid k here is
  within-limits k here is FormulaSize = small-formulas t m says valid k here is
  within-limits k here is OpenParentheses = few-parentheses t shallow k here is
  within-limits k here is NameBytes = short-names t short k here is

  pub no-faults : NoFaults (text_entries t)
  no-faults k here NoGrammar is h = h
  no-faults k here NoContext is h = no-context t m says valid k here is h
  no-faults k here Twin is h = no-twin t m says valid k here is h
  no-faults k here NoAtom is h = no-wrong-atom t m says valid grammar bare k here is h
  no-faults k here (Exceeds limit) is h = within-limits k here is limit h
