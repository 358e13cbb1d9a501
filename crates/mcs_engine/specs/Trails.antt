-- The literals that a solver has made true, one after the other, and what they make of a clause.
use Rattle.std.specs.Prelude.{◌≤◌, Some, slice_get, ◌⊎◌, neg_ℤ, ◌≡◌, ◌≢◌, ℕ, ◌+◌, ◌<◌, cond, nat_eq, List, [], ◌∷◌, ◌++◌, length, take, ℤ, pos, get_or, unsigned_abs}
use Rattle.std.specs.List.{AllByRecursion}
use Rattle.mcs_base.specs.Listings.{IsAmong}
use Rattle.mcs_trace.specs.Clauses.{IsLiteral, IsClause}
use Rattle.mcs_trace.specs.Traces.{numbered_clause}
use Rattle.mcs_engine.specs.declared.examine.Finding.{Finding}
use Rattle.mcs_engine.specs.declared.examine.Finding.TheVariants.{Open, Forced, Conflict}
use Rattle.mcs_engine.specs.declared.trail.Entry.{Entry}

-- ---- literals that are true, in the order in which they were made so
abbrev pub literal_at : List Entry → ℕ → ℤ
literal_at entries i = (get_or entries i (record { literal = pos 0; reason = 0; level = 0 })).literal

abbrev pub reason_at : List Entry → ℕ → ℕ
reason_at entries i = (get_or entries i (record { literal = pos 0; reason = 0; level = 0 })).reason

abbrev pub level_at : List Entry → ℕ → ℕ
level_at entries i = (get_or entries i (record { literal = pos 0; reason = 0; level = 0 })).level

-- each entry's variable is placed at the entry, so that no variable is there twice
abbrev pub ArePlaced : List Entry → List ℕ → Type 0
ArePlaced entries positions = (i : ℕ) → i < length entries
    → IsLiteral (literal_at entries i) × (unsigned_abs (literal_at entries i) < length positions) × (get_or positions (unsigned_abs (literal_at entries i)) 0 ≡ i)

-- each literal's variable is one of those that have a place
abbrev pub AreCovered : List ℕ → List ℤ → Type 0
AreCovered positions c = AllByRecursion (λ l. unsigned_abs l < length positions) c

-- a literal, and a clause, of such variables
abbrev pub IsLiteralOver : List ℕ → ℤ → Type 0
IsLiteralOver positions l = IsLiteral l × (unsigned_abs l < length positions)

abbrev pub IsClauseOver : List ℕ → List ℤ → Type 0
IsClauseOver positions c = IsClause c × AreCovered positions c

-- the variable stands at p, or nowhere
abbrev pub StandsAt : List Entry → ℕ → ℕ → Type 0
StandsAt entries variable p = (p < length entries) × (unsigned_abs (literal_at entries p) ≡ variable)

abbrev pub StandsNowhere : List Entry → ℕ → Type 0
StandsNowhere entries variable = (i : ℕ) → ¬ StandsAt entries variable i

-- a literal of such a variable that has no value
abbrev pub IsFree : List Entry → List ℕ → ℤ → Type 0
IsFree entries positions l = IsLiteral l × (unsigned_abs l < length positions) × StandsNowhere entries (unsigned_abs l)

-- each variable from the first number up to the second stands somewhere
abbrev pub AreAssigned : List Entry → ℕ → ℕ → Type 0
AreAssigned entries from to = (v : ℕ) → from ≤ v → v < to → (p : ℕ) × StandsAt entries v p

-- the literal is one of those made true, or was so before place n
abbrev pub IsOn : List Entry → ℤ → Type 0
IsOn entries l = (p : ℕ) × (p < length entries) × (literal_at entries p ≡ l)

abbrev pub IsOnBelow : List Entry → ℕ → ℤ → Type 0
IsOnBelow entries n l = (p : ℕ) × (p < n) × (literal_at entries p ≡ l)

-- ---- what they make of a clause
-- a literal of the clause is true
abbrev pub IsClauseSatisfied : List Entry → List ℤ → Type 0
IsClauseSatisfied entries c = (k : ℤ) × IsAmong k c × IsOn entries k

-- two literals of the clause are free
pub record AreTwoFree (entries : List Entry) (c : List ℤ) : Type 0 where
  pub first : ℤ
  pub second : ℤ
  pub has_first : IsAmong first c
  pub has_second : IsAmong second c
  pub differ : first ≢ second
  pub free_first : StandsNowhere entries (unsigned_abs first)
  pub free_second : StandsNowhere entries (unsigned_abs second)

-- the literal is in the clause, and all others are false
abbrev pub IsForcing : List Entry → List ℤ → ℤ → Type 0
IsForcing entries c l = IsAmong l c × ((k : ℤ) → IsAmong k c → (k ≡ l) ⊎ IsOn entries (neg_ℤ k))

-- all literals of the clause are false
abbrev pub IsFalse : List Entry → List ℤ → Type 0
IsFalse entries c = (k : ℤ) → IsAmong k c → IsOn entries (neg_ℤ k)

-- a literal is true, or two are free; the one that is free is forced; all are false
abbrev pub IsClauseFinding : List Entry → List ℤ → Finding → Type 0
IsClauseFinding entries c Open = IsClauseSatisfied entries c ⊎ AreTwoFree entries c
IsClauseFinding entries c (Forced l) = IsForcing entries c l × StandsNowhere entries (unsigned_abs l)
IsClauseFinding entries c Conflict = IsFalse entries c

-- a literal of the clause is true, or two are free
abbrev pub IsOpen : List Entry → List ℤ → Type 0
IsOpen entries c = IsClauseSatisfied entries c ⊎ AreTwoFree entries c

-- a literal of the clause was true before place n
abbrev pub IsSatisfiedBelow : List Entry → ℕ → List ℤ → Type 0
IsSatisfiedBelow entries n c = (k : ℤ) × IsAmong k c × IsOnBelow entries n k

-- all were false before place n
abbrev pub IsFalseBelow : List Entry → ℕ → List ℤ → Type 0
IsFalseBelow entries n c = (k : ℤ) → IsAmong k c → IsOnBelow entries n (neg_ℤ k)

-- the clause has the literal at place i, and its other literals were false before
pub record IsReason (entries : List Entry) (i : ℕ) (c : List ℤ) : Type 0 where
  pub clause : IsClause c
  pub has : IsAmong (literal_at entries i) c
  pub others : (k : ℤ) → IsAmong k c → (k ≡ literal_at entries i) ⊎ IsOnBelow entries i (neg_ℤ k)

-- each literal made true is a decision, or has a reason among the numbered clauses
abbrev pub AreExplained : List (List ℤ) → List Entry → Type 0
AreExplained known entries = (i : ℕ) → i < length entries → (reason_at entries i ≡ 0) ⊎ ((c : List ℤ) × (numbered_clause known (reason_at entries i) ≡ Some c) × IsReason entries i c)

-- the clause of the index is false
abbrev pub IsFalseAt : List (List ℤ) → List Entry → ℕ → Type 0
IsFalseAt known entries i = (c : List ℤ) × (slice_get known i ≡ Some c) × IsFalse entries c

-- literals that follow were made true on the level
abbrev pub GrowsOnLevel : ℕ → List Entry → List Entry → Type 0
GrowsOnLevel level old new = (more : List Entry) × (new ≡ old ++ more) × AllByRecursion (λ (e : Entry). (0 < e.reason) × (e.level ≡ level)) more

-- ---- levels
-- how many of the literals were decided
abbrev pub decisions : List Entry → ℕ
decisions [] = 0
decisions (e ∷ entries) = cond (nat_eq e.reason 0) 1 0 + decisions entries

-- each literal has the number of decisions up to it for its level
abbrev pub AreLevelled : List Entry → Type 0
AreLevelled entries = (i : ℕ) → i < length entries → level_at entries i ≡ decisions (take (i + 1) entries)

-- the literals of level 0, or of a level whose decision is left out; then those of each level above
abbrev pub first_level : List Entry → List ℤ
first_level [] = []
first_level (e ∷ entries) = cond (nat_eq e.reason 0) [] (e.literal ∷ first_level entries)

abbrev pub later_levels : List Entry → List (List ℤ)
later_levels [] = []
later_levels (e ∷ entries) = cond (nat_eq e.reason 0) ((e.literal ∷ first_level entries) ∷ later_levels entries) (later_levels entries)

abbrev pub levels_of : List Entry → List (List ℤ)
levels_of entries = first_level entries ∷ later_levels entries
