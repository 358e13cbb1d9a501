use Rattle.std.proofs.Common.{◌≡◌, ℕ, List, map}
use Rattle.std.specs.List.{AllByRecursion}
use Rattle.mcs_system.specs.Plain.{Formula}
use Rattle.mcs_system.specs.Seen.{formula_of}
use Rattle.mcs_meant.specs.Meanings.{AreMeantBy}
use Rattle.mcs_classical.specs.Consequences.{with_assumed, AreGoalsTold, IsUpperConsequence}
use Rattle.mcs_classical.proofs.consequences.ask_left.Given as goal

abbrev pub invariant-loop-place : goal.invariant-loop-place
invariant-loop-place l = record {
  kept : l.known ≡ l.fn.known;
  right : (fs : List Formula) (set : ℕ) → AreMeantBy l.given.asked.now.atoms.now (with_assumed fs l.given.assumptions.now set) l.fn.known
      → AllByRecursion (IsUpperConsequence fs l.given.assumptions.now (map (λ g. formula_of g.now) l.given.asked.now.beliefs.now)) l.fn.upper.items → AllByRecursion (IsUpperConsequence fs l.given.assumptions.now (map (λ g. formula_of g.now) l.given.asked.now.beliefs.now)) l.upper.items;
  told : (fs : List Formula) → AreMeantBy l.given.asked.now.atoms.now fs l.fn.known → AreGoalsTold fs (map (λ g. formula_of g.now) l.given.asked.now.beliefs.now) 0 l.fn.before → AreGoalsTold fs (map (λ g. formula_of g.now) l.given.asked.now.beliefs.now) l.place l.told;
}
