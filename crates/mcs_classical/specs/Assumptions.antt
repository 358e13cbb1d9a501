-- Formulas that are assumed beside others, each by its number.
use Rattle.std.specs.Prelude.{◌≡◌, ℕ, ◌<◌, IsTrue, List, filter, map}
use Rattle.std.specs.List.{AllByRecursion}
use Rattle.mcs_sets.specs.Sets.{has}
use Rattle.mcs_system.specs.Plain.{Name, Formula, System}
use Rattle.mcs_system.specs.Faults.{IsValid}
use Rattle.mcs_system.specs.Logic.{holds, true_names}
use Rattle.mcs_system.specs.Seen.{formula_of}
use Rattle.mcs_system.specs.Systems.{heads_into}
use Rattle.mcs_classical.specs.declared.assumptions.Assumption as declared

-- those whose numbers are in the set
abbrev pub assumed : ℕ → List declared.Assumption → List Formula
assumed set assumptions = map (λ (a : declared.Assumption). formula_of a.formula.now) (filter (λ (a : declared.Assumption). has set a.number) assumptions)

-- the assumption holds where exactly the atoms at these places are true
abbrev pub HoldsAt : List Name → ℕ → declared.Assumption → Type 0
HoldsAt names places a = IsTrue (holds (true_names 0 names places) (formula_of a.formula.now))

-- all of this number do
abbrev pub DoHold : List Name → ℕ → ℕ → List declared.Assumption → Type 0
DoHold names places n assumptions = AllByRecursion (λ (a : declared.Assumption). a.number ≡ n → HoldsAt names places a) assumptions

-- the heads of the rules into context i of the system, which is a valid one, each with the number of its rule
pub record AreHeads (m : System) (i : ℕ) (all : List declared.Assumption) : Type 0 where
  pub valid : IsValid m
  pub of_rules : (rules : ℕ) → assumed rules all ≡ heads_into m i rules
  pub numbers : AllByRecursion (λ (a : declared.Assumption). a.number < 64) all
