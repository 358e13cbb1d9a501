-- A solver, as it is seen: its clauses, and level by level the literals made true (Davis, Logemann and Loveland 1962; Marques-Silva and Sakallah 1996).
use Rattle.std.specs.Prelude.{◌≡◌, ◌≢◌, ℕ, suc, ◌-◌, ◌<◌, ◌≤◌, ◌⊎◌, List, [], ◌∷◌, ◌++◌, ℤ, neg_ℤ, length, take, unsigned_abs, Some, slice_get}
use Rattle.std.specs.List.{AllByRecursion, flat_map}
use Rattle.mcs_base.specs.Listings.{IsAmong}
use Rattle.mcs_trace.specs.Clauses.{IsClauseList}
use Rattle.mcs_trace.specs.Traces.{numbered_clause, IsChainResolvent}
use Rattle.mcs_trace.specs.declared.trace.Step.{Step}
use Rattle.mcs_engine.specs.declared.state.State.{State}
use Rattle.mcs_engine.specs.Trails.{levels_of}

-- the clauses over the variables 1 to `vars`, those of the list and those that were learnt; the literals made true: level 0 has those made true before any decision, each other level begins with a decision
pub record SolverView : Type 0 where
  pub vars : ℕ
  pub clauses : List (List ℤ)
  pub levels : List (List ℤ)

-- what a state is seen as
abbrev pub view_of : State → SolverView
view_of s = record { vars = length s.trail.positions.items - 1; clauses = s.clauses; levels = levels_of s.trail.entries.items }

-- the literals made true, in the order in which they were made so
abbrev pub trues : SolverView → List ℤ
trues s = flat_map (λ l. l) s.levels

-- ---- what the literals made true make of a clause
-- neither the literal nor its negation is among them
abbrev pub HasNoValue : List ℤ → ℤ → Type 0
HasNoValue literals l = (k : ℤ) → IsAmong k literals → unsigned_abs k ≢ unsigned_abs l

abbrev pub IsFalseUnder : List ℤ → List ℤ → Type 0
IsFalseUnder literals c = (k : ℤ) → IsAmong k c → IsAmong (neg_ℤ k) literals

abbrev pub IsTrueUnder : List ℤ → List ℤ → Type 0
IsTrueUnder literals c = (k : ℤ) × IsAmong k c × IsAmong k literals

-- two literals of the clause have no value
pub record HasTwoFree (literals c : List ℤ) : Type 0 where
  pub first : ℤ
  pub second : ℤ
  pub has_first : IsAmong first c
  pub has_second : IsAmong second c
  pub differ : first ≢ second
  pub free_first : HasNoValue literals first
  pub free_second : HasNoValue literals second

-- the clause has a true literal, or at least two without value
abbrev pub IsOpenUnder : List ℤ → List ℤ → Type 0
IsOpenUnder literals c = IsTrueUnder literals c ⊎ HasTwoFree literals c

-- a literal without value stands in a clause whose other literals are false
abbrev pub IsForcedBy : List (List ℤ) → List ℤ → ℤ → Type 0
IsForcedBy known literals l = HasNoValue literals l
    × ((c : List ℤ) × IsAmong c known × IsAmong l c × ((k : ℤ) → IsAmong k c → (k ≡ l) ⊎ IsAmong (neg_ℤ k) literals))

-- each literal in turn is forced by those before it
abbrev pub IsUnitRun : List (List ℤ) → List ℤ → List ℤ → Type 0
IsUnitRun known literals [] = Unit {0}
IsUnitRun known literals (l ∷ more) = IsForcedBy known literals l × IsUnitRun known (literals ++ l ∷ []) more

-- unit clauses lead to a clause that is false
abbrev pub LeadsToConflict : List (List ℤ) → List ℤ → Type 0
LeadsToConflict known literals = (more : List ℤ) × IsUnitRun known literals more × ((c : List ℤ) × IsAmong c known × IsFalseUnder (literals ++ more) c)

-- ---- what a solver keeps
-- each level begins with a literal that had no value, and goes on with a run
abbrev pub AreDecided : List (List ℤ) → List ℤ → List (List ℤ) → Type 0
AreDecided known literals [] = Unit {0}
AreDecided known literals ([] ∷ levels) = ⊥
AreDecided known literals ((l ∷ run) ∷ levels) = HasNoValue literals l × IsUnitRun known (literals ++ l ∷ []) run × AreDecided known (literals ++ l ∷ run) levels

abbrev pub AreLevels : List (List ℤ) → List (List ℤ) → Type 0
AreLevels known [] = ⊥
AreLevels known (zeroth ∷ levels) = IsUnitRun known [] zeroth × AreDecided known zeroth levels

pub record IsSolver (s : SolverView) : Type 0 where
  pub clauses : IsClauseList (record { vars = s.vars; clauses = s.clauses })
  pub levels : AreLevels s.clauses s.levels
  pub within : AllByRecursion (λ l. (0 < unsigned_abs l) × (unsigned_abs l ≤ s.vars)) (trues s)

-- ---- what its calls do
-- the literals follow at the end of the last level
pub record GoesOn (old new : List (List ℤ)) (more : List ℤ) : Type 0 where
  pub before : List (List ℤ)
  pub last : List ℤ
  pub was : old ≡ before ++ last ∷ []
  pub is : new ≡ before ++ (last ++ more) ∷ []

-- the clause of the number is false
abbrev pub IsFalseNumber : SolverView → ℕ → Type 0
IsFalseNumber s n = (c : List ℤ) × (numbered_clause s.clauses n ≡ Some c) × IsFalseUnder (trues s) c

-- the clause of the number has a literal made true, and its other literals were false before it
pub record IsReasonNumber (s : SolverView) (n : ℕ) : Type 0 where
  pub clause : List ℤ
  pub numbers : numbered_clause s.clauses n ≡ Some clause
  pub literal : ℤ
  pub before : List ℤ
  pub after : List ℤ
  pub made : trues s ≡ before ++ literal ∷ after
  pub has : IsAmong literal clause
  pub others : (k : ℤ) → IsAmong k clause → (k ≡ literal) ⊎ IsAmong (neg_ℤ k) before

-- the literals made true below the level
abbrev pub trues_below : List (List ℤ) → ℕ → List ℤ
trues_below levels k = flat_map (λ l. l) (take k levels)

-- the literal's value comes from the level
abbrev pub IsValueOfLevel : List (List ℤ) → ℕ → ℤ → Type 0
IsValueOfLevel levels k l = (level : List ℤ) × (slice_get levels k ≡ Some level) × (IsAmong l level ⊎ IsAmong (neg_ℤ l) level)

-- the clause has exactly one literal that has its value from the level
pub record HasOneOfLevel (levels : List (List ℤ)) (k : ℕ) (c : List ℤ) : Type 0 where
  pub literal : ℤ
  pub has : IsAmong literal c
  pub here : IsValueOfLevel levels k literal
  pub only : (l : ℤ) → IsAmong l c → IsValueOfLevel levels k l → l ≡ literal

-- the number of the last level
abbrev pub last_level : SolverView → ℕ
last_level s = length s.levels - 1

-- a right step whose clause is false, with exactly one literal of the last level
pub record IsAsserting (s : SolverView) (step : Step) : Type 0 where
  pub right : IsChainResolvent s.clauses step.chain.items step.clause
  pub all_false : IsFalseUnder (trues s) step.clause
  pub single : HasOneOfLevel s.levels (last_level s) step.clause

-- the greatest level of the clause's literals but those of the last level; 0 where there are no others
pub record IsBackLevel (s : SolverView) (c : List ℤ) (k : ℕ) : Type 0 where
  pub below : k < last_level s
  pub others : (l : ℤ) (j : ℕ) → IsAmong l c → IsValueOfLevel s.levels j l → (j ≤ k) ⊎ (j ≡ last_level s)
  pub has : (k ≡ 0) ⊎ ((l : ℤ) × IsAmong l c × IsValueOfLevel s.levels k l)

-- the clause is added, and the levels above that of its other literals are taken back; then one literal of it has no value
pub record IsLearned (old new : SolverView) (step : Step) : Type 0 where
  pub level : ℕ
  pub back : IsBackLevel old step.clause level
  pub is : new ≡ record { vars = old.vars; clauses = old.clauses ++ step.clause ∷ []; levels = take (suc level) old.levels }
  pub free : ℤ
  pub has : IsAmong free step.clause
  pub no_value : HasNoValue (trues new) free
  pub others : (l : ℤ) → IsAmong l step.clause → (l ≡ free) ⊎ IsAmong (neg_ℤ l) (trues new)
