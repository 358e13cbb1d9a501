-- The two literals that a clause watches, and how far a solver has come with them (Moskewicz et al. 2001).
use Rattle.std.specs.Prelude.{◌≡◌, ◌≢◌, ℕ, ◌<◌, ◌≤◌, ◌⊎◌, List, [], ◌∷◌, ◌++◌, ℤ, neg_ℤ, length, Option, Some, None, MatchOption, slice_get}
use Rattle.mcs_base.specs.Listings.{IsAmong}
use Rattle.mcs_trace.specs.Clauses.{IsLiteral}
use Rattle.mcs_engine.specs.declared.propagate.Seen.{Seen}
use Rattle.mcs_engine.specs.declared.propagate.Seen.TheVariants as seen
use Rattle.mcs_engine.specs.declared.state.Kept.{Kept}
use Rattle.mcs_engine.specs.declared.state.Reach.{Reach}
use Rattle.mcs_engine.specs.declared.trail.Entry.{Entry}
use Rattle.mcs_engine.specs.declared.watches.Pair.{Pair}
use Rattle.mcs_engine.specs.declared.watches.Watches.{Watches}
use Rattle.mcs_engine.specs.Lists.{IsInList}
use Rattle.mcs_engine.specs.Pairs.{no_pair}
use Rattle.mcs_engine.specs.Trails.{IsFalseAt, IsOn, IsOnBelow, IsClauseSatisfied, IsSatisfiedBelow}

-- a clause of two literals or more watches two
abbrev pub IsLong : List ℤ → Type 0
IsLong c = 2 ≤ length c

-- the literal is one of the pair
abbrev pub IsOf : ℤ → Pair → Type 0
IsOf l p = (p.first ≡ l) ⊎ (p.second ≡ l)

-- the pair is the literal and the other one, in some order
abbrev pub IsPairOf : Pair → ℤ → ℤ → Type 0
IsPairOf p l other = ((p.first ≡ l) × (p.second ≡ other)) ⊎ ((p.second ≡ l) × (p.first ≡ other))

-- two literals of the clause
pub record ArePair (c : List ℤ) (p : Pair) : Type 0 where
  pub first : IsAmong p.first c
  pub second : IsAmong p.second c
  pub differ : p.first ≢ p.second

-- no literals, or two of the clause
abbrev pub IsPaired : List ℤ → Pair → Type 0
IsPaired c p = (p ≡ no_pair) ⊎ ArePair c p

-- each of the first clauses has its pair, and is in the lists of both of its literals; the short ones of them are among those of a list of their own
pub record AreWatched (known : List (List ℤ)) (w : Watches) : Type 0 where
  pub sized : length w.pairs ≤ length known
  pub paired : (i : ℕ) (c : List ℤ) (p : Pair) → slice_get known i ≡ Some c → slice_get w.pairs i ≡ Some p → IsPaired c p
  pub listed : (i : ℕ) (p : Pair) (l : ℤ) → slice_get w.pairs i ≡ Some p → IsLiteral l → IsOf l p → IsInList w.lists l i
  pub short : (i : ℕ) (c : List ℤ) → i < length w.pairs → slice_get known i ≡ Some c → ¬ IsLong c → IsAmong i w.short.items

-- where a literal that a clause watches was false among those that were visited, the clause was satisfied; the short clauses that were settled were so too
pub record IsReached (known : List (List ℤ)) (w : Watches) (entries : List Entry) (r : Reach) : Type 0 where
  pub visited : (i : ℕ) (c : List ℤ) (p : Pair) (l : ℤ) → slice_get known i ≡ Some c → slice_get w.pairs i ≡ Some p → IsLiteral l → IsOf l p → IsOnBelow entries r.visited (neg_ℤ l) → IsSatisfiedBelow entries r.entries c
  pub settled : (j i : ℕ) (c : List ℤ) → j < r.settled → slice_get w.short.items j ≡ Some i → slice_get known i ≡ Some c → ¬ IsLong c → IsSatisfiedBelow entries r.entries c

-- what is kept of the visits of the first clauses: where a literal that one of them watches was false among those that were visited, it was satisfied, without any decision; and so was each long clause that watches nothing
pub record AreVisitsKept (known : List (List ℤ)) (w : Watches) (entries : List Entry) (levels : List Reach) (m : Kept) : Type 0 where
  pub count : m.count ≤ length w.pairs
  pub within : m.entries ≤ length entries
  pub bound : m.visited ≤ m.entries
  pub early : (k : ℕ) (r : Reach) → slice_get levels k ≡ Some r → m.entries ≤ r.entries
  pub visited : (i : ℕ) (c : List ℤ) (p : Pair) (l : ℤ) → i < m.count → slice_get known i ≡ Some c → slice_get w.pairs i ≡ Some p → IsLiteral l → IsOf l p → IsOnBelow entries m.visited (neg_ℤ l) → IsSatisfiedBelow entries m.entries c
  pub spared : (i : ℕ) (c : List ℤ) → slice_get known i ≡ Some c → slice_get w.pairs i ≡ Some no_pair → IsLong c → IsSatisfiedBelow entries m.entries c

-- what became of the clause of the index, which stood in the list of the literal
abbrev pub IsClauseSeen : List (List ℤ) → Watches → List Entry → ℕ → ℤ → Seen → Type 0
IsClauseSeen known w entries i l seen.Satisfied = (c : List ℤ) → slice_get known i ≡ Some c → IsClauseSatisfied entries c
IsClauseSeen known w entries i l seen.Gone = (p : Pair) → slice_get w.pairs i ≡ Some p → ¬ IsOf l p
IsClauseSeen known w entries i l seen.Conflict = IsFalseAt known entries i

-- each clause that watches the literal is satisfied
abbrev pub AreVisited : List (List ℤ) → Watches → List Entry → ℤ → Type 0
AreVisited known w entries l = (i : ℕ) (c : List ℤ) (p : Pair) → slice_get known i ≡ Some c → slice_get w.pairs i ≡ Some p → IsOf l p → IsClauseSatisfied entries c

-- those of the short clauses from the one place up to the other are satisfied
abbrev pub AreSettled : List (List ℤ) → List ℕ → List Entry → ℕ → ℕ → Type 0
AreSettled known indices entries from to = (j i : ℕ) (c : List ℤ) → from ≤ j → j < to → slice_get indices j ≡ Some i → slice_get known i ≡ Some c → ¬ IsLong c → IsClauseSatisfied entries c

-- ---- what changes
-- no literal that a clause of the indices watches was false among the first n
abbrev pub AreUnwatched : List Entry → List Pair → ℕ → ℕ → ℕ → Type 0
AreUnwatched entries pairs from to n = (i : ℕ) (p : Pair) (l : ℤ) → from ≤ i → i < to → slice_get pairs i ≡ Some p → IsLiteral l → IsOf l p → ¬ IsOnBelow entries n (neg_ℤ l)

-- each literal that a clause watches now it watched before, or it was not false
abbrev pub AreMoved : List Pair → List Pair → List Entry → Type 0
AreMoved old new entries = (i : ℕ) (p : Pair) (l : ℤ) → slice_get new i ≡ Some p → IsOf l p → ((q : Pair) × (slice_get old i ≡ Some q) × IsOf l q) ⊎ (¬ IsOn entries (neg_ℤ l))

-- where a clause watches nothing now, it watched nothing before
abbrev pub AreSpared : List Pair → List Pair → Type 0
AreSpared old new = (i : ℕ) → slice_get new i ≡ Some no_pair → slice_get old i ≡ Some no_pair

-- each clause that watched something still does, and what was reached by these literals is reached still
pub record KeepsWatches (known : List (List ℤ)) (before after : Watches) (entries : List Entry) : Type 0 where
  pub sized : length after.pairs ≡ length before.pairs
  pub spared : AreSpared before.pairs after.pairs
  pub watched : AreWatched known after
  pub short : after.short.items ≡ before.short.items
  pub moved : AreMoved before.pairs after.pairs entries
  pub reached : (r : Reach) → r.visited ≤ length entries → IsReached known before entries r → IsReached known after entries r

-- the next clause watches the pair; without one it is short
abbrev pub IsPushed : Watches → Watches → Option Pair → Type 0
IsPushed old new (Some p) = (new.pairs ≡ old.pairs ++ p ∷ []) × (new.short.items ≡ old.short.items)
    × IsInList new.lists p.first (length old.pairs) × IsInList new.lists p.second (length old.pairs)
IsPushed old new None = (new.pairs ≡ old.pairs ++ no_pair ∷ []) × (new.short.items ≡ old.short.items ++ length old.pairs ∷ [])

-- the clauses watch what they watched
pub record SameWatched (old new : Watches) : Type 0 where
  pub pairs : new.pairs ≡ old.pairs
  pub short : new.short.items ≡ old.short.items

-- no literal of the pair was false among the first n
abbrev pub IsFreshPair : List Entry → ℕ → Option Pair → Type 0
IsFreshPair es n o = MatchOption o (Unit {0}) (λ p. (l : ℤ) → IsOf l p → ¬ IsOnBelow es n (neg_ℤ l))
