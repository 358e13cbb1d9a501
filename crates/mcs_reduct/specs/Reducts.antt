-- The reduct of a system by a belief state: a system as any other, whose rules keep their numbers.
use Rattle.std.specs.Prelude.{◌≡◌, ℕ, ◌+◌, cond, IsTrue, ◌↔◌, List, [], ◌∷◌, map, Some, slice_get}
use Rattle.std.specs.List.{AllByRecursion}
use Rattle.mcs_sets.specs.Sets.{has, Within}
use Rattle.mcs_system.specs.Plain.{Name, Kb, Program, Context, Bridge, System}
use Rattle.mcs_system.specs.Logic.{BeliefSet, Theory, Atoms, reduct}
use Rattle.mcs_system.specs.Systems.{BelievesIn, IsEquilibrium, all_rules}

-- the names of a set of atoms; a theory has none
abbrev pub names_believed : BeliefSet → List Name
names_believed (Theory formulas) = []
names_believed (Atoms names) = names

-- a program becomes its reduct by the names (Gelfond and Lifschitz 1988); other knowledge bases stay
abbrev pub kb_reduct : List Name → Kb → Kb
kb_reduct names (Program rules) = Program (reduct names rules)
kb_reduct names kb = kb

-- each context with its program reduced by its own belief set; a context without a belief set stays
abbrev pub reduced_contexts : List Context → List BeliefSet → List Context
reduced_contexts [] s = []
reduced_contexts (c ∷ cs) [] = c ∷ cs
reduced_contexts (c ∷ cs) (b ∷ bs) = record c { kb = kb_reduct (names_believed b) c.kb } ∷ reduced_contexts cs bs

-- the rule without its negative reads
abbrev pub positive_part : Bridge → Bridge
positive_part b = record b { neg = [] }

-- the rules without their negative reads, and the programs reduced. Which of the rules the reduct has, `AreUnblocked` says.
abbrev pub reduced_system : System → List BeliefSet → System
reduced_system m s = record { contexts = reduced_contexts m.contexts s; bridges = map positive_part m.bridges }

-- the reduct has exactly the rules of which no negative read is believed in s; the others are dropped, as removed rules are from a changed system
pub record AreUnblocked (m : System) (s : List BeliefSet) (rules : ℕ) : Type 0 where
  pub of_rules : Within rules (all_rules m)
  pub exactly : (k : ℕ) (b : Bridge) → slice_get m.bridges k ≡ Some b → IsTrue (has rules k) ↔ AllByRecursion (λ r. ¬ BelievesIn s r) b.neg

-- t is an equilibrium of the reduct of m by s, with all its rules and none forced
pub record IsReductEquilibrium (m : System) (s t : List BeliefSet) : Type 0 where
  pub rules : ℕ
  pub unblocked : AreUnblocked m s rules
  pub balanced : IsEquilibrium (reduced_system m s) rules 0 t

-- ---- the same without numbers that are kept
-- the rules of x, in order, where the first rule has number k
abbrev pub rules_of : ℕ → List Bridge → ℕ → List Bridge
rules_of k [] x = []
rules_of k (b ∷ bs) x = cond (has x k) (b ∷ rules_of (k + 1) bs x) (rules_of (k + 1) bs x)

-- the system with the rules of x alone
abbrev pub with_rules : System → ℕ → System
with_rules m x = record m { bridges = rules_of 0 m.bridges x }
