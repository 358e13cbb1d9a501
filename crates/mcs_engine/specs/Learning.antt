-- What is learnt of a clause that is false: the latest of its literals, and the others (Marques-Silva and Sakallah 1996).
use Rattle.std.specs.Prelude.{◌≡◌, ℕ, ◌+◌, ◌-◌, ◌<◌, ◌≤◌, ◌⊎◌, List, ◌++◌, ℤ, neg_ℤ, length, Some}
use Rattle.std.specs.List.{AllByRecursion}
use Rattle.mcs_base.specs.Listings.{IsAmong}
use Rattle.mcs_trace.specs.Traces.{IsChainResolvent, numbered_clause}
use Rattle.mcs_trace.specs.declared.trace.Step.{Step}
use Rattle.mcs_engine.specs.declared.latest.Latest.{Latest}
use Rattle.mcs_engine.specs.declared.trail.Entry.{Entry}
use Rattle.mcs_engine.specs.Trails.{IsFalse, IsFalseBelow, IsOnBelow, IsReason, literal_at, reason_at}

-- the latest place is the new one, or as before
abbrev pub IsLatestOf : Latest → ℕ → Latest → Type 0
IsLatestOf l place new =
    ((l.place < place) × (new.place ≡ place) × (new.others ≡ l.place + 1))
    ⊎ (((place ≡ l.place) ⊎ (place < l.others)) × (new ≡ l))
    ⊎ ((place < l.place) × (l.others ≤ place) × (new.place ≡ l.place) × (new.others ≡ place + 1))

-- the clause has the negation of the literal at the place; its other literals were false earlier, the last of them just before place `others`
pub record IsLatest (entries : List Entry) (c : List ℤ) (l : Latest) : Type 0 where
  pub here : l.place < length entries
  pub before : l.others ≤ l.place
  pub has : IsAmong (neg_ℤ (literal_at entries l.place)) c
  pub others : (k : ℤ) → IsAmong k c → (k ≡ neg_ℤ (literal_at entries l.place)) ⊎ IsOnBelow entries l.others (neg_ℤ k)
  pub last : 0 < l.others → IsAmong (neg_ℤ (literal_at entries (l.others - 1))) c

-- all were false before the place but one literal, which became false from there on
abbrev pub IsSingle : List Entry → ℕ → List ℤ → Type 0
IsSingle entries start c = (l : Latest) × IsLatest entries c l × (l.others ≤ start) × (start ≤ l.place)

-- not all were false before the place; or that is no place
abbrev pub IsLate : List Entry → ℕ → List ℤ → Type 0
IsLate entries start c = (IsFalseBelow entries start c → ⊥) ⊎ (length entries ≤ start)

-- the clause of the number is the reason of a literal made true
abbrev pub IsReasonNumbered : List (List ℤ) → List Entry → ℕ → Type 0
IsReasonNumbered known entries n = (p : ℕ) × (p < length entries) × ((c : List ℤ) × (numbered_clause known n ≡ Some c) × IsReason entries p c)

-- the chain goes on with the numbers of reasons
pub record GoesOnByReasons (known : List (List ℤ)) (entries : List Entry) (old new : List ℕ) : Type 0 where
  pub more : List ℕ
  pub is : new ≡ old ++ more
  pub reasons : AllByRecursion (IsReasonNumbered known entries) more

-- only literals up to the place were decided; where it is no place, none
abbrev pub AreImplied : List Entry → ℕ → Type 0
AreImplied entries start = (i : ℕ) → i < length entries → reason_at entries i ≡ 0 → (i ≤ start) × (start < length entries)

-- a right step whose clause is false
pub record IsLearnt (known : List (List ℤ)) (entries : List Entry) (step : Step) : Type 0 where
  pub chain : IsChainResolvent known step.chain.items step.clause
  pub all_false : IsFalse entries step.clause
