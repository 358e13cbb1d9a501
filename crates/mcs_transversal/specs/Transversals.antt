-- Critical edges of a transversal, and how transversals grow edge by edge (Berge 1989).
use Rattle.std.specs.Prelude.{◌≡◌, ℕ, ◌<◌, List, ◌⊎◌, ◌↔◌, IsTrue, length, slice_index_or, Option, None, MatchOption}
use Rattle.mcs_sets.specs.Sets.{has, single, union, Meets}
use Rattle.mcs_base.specs.Listings.{IsAmong}
use Rattle.mcs_base.specs.Minimal.{IsMinimal}
use Rattle.mcs_base.specs.Transversals.{IsTransversalOf, MeetAloneAt}

-- some edge meets the set in this mark alone
pub record HasCriticalEdge (edges : List ℕ) (t k : ℕ) : Type 0 where
  pub edge : ℕ
  pub among : IsAmong edge edges
  pub alone : MeetAloneAt edge t k

-- each mark of the set has such an edge
abbrev pub IsCritical : List ℕ → ℕ → Type 0
IsCritical edges t = (k : ℕ) → IsTrue (has t k) → HasCriticalEdge edges t k

-- the place of the first edge that meets the set in this mark alone
pub record IsFirstCritical (edges : List ℕ) (t k i : ℕ) : Type 0 where
  pub in_range : i < length edges
  pub alone : MeetAloneAt (slice_index_or edges i 0) t k
  pub none_before : (j : ℕ) → j < i → ¬ MeetAloneAt (slice_index_or edges j 0) t k

-- at each mark the place of the first edge that meets the set in this mark alone, if there is one
pub record AreFirstCritical (edges : List ℕ) (t : ℕ) (firsts : List (Option ℕ)) : Type 0 where
  pub one_each : length firsts ≡ 128
  pub each : (k : ℕ) → k < 128 → MatchOption (slice_index_or firsts k None) ((j : ℕ) → j < length edges → ¬ MeetAloneAt (slice_index_or edges j 0) t k) (IsFirstCritical edges t k)

-- at each mark a set that lies in all edges that meet t in this mark alone
pub record AreCommonParts (edges : List ℕ) (t : ℕ) (parts : List ℕ) : Type 0 where
  pub one_each : length parts ≡ 128
  pub each : (k : ℕ) → k < 128 → (m : ℕ) → IsTrue (has (slice_index_or parts k 0) m) → (e : ℕ) → IsAmong e edges → MeetAloneAt e t k → IsTrue (has e m)

-- with none of these marks each mark of the set has a critical edge
abbrev pub AreBarred : List ℕ → ℕ → ℕ → Type 0
AreBarred edges t barred = (m : ℕ) → IsTrue (has barred m) → ¬ IsCritical edges (union t (single m))

-- Berge's rule: x is t and one mark of the edge, and each mark of x has a critical edge
pub record IsGrownByMark (edges : List ℕ) (e t x : ℕ) : Type 0 where
  pub mark : ℕ
  pub in_edge : IsTrue (has e mark)
  pub with_mark : x ≡ union t (single mark)
  pub critical : IsCritical edges x

-- x comes of t where e is the last of the edges: it is t itself, if that meets e, and else t grown
abbrev pub ComesOf : List ℕ → ℕ → ℕ → ℕ → Type 0
ComesOf edges e x t = (Meets t e × (x ≡ t)) ⊎ ((¬ Meets t e) × IsGrownByMark edges e t x)

-- x comes of one of the sets
pub record ComesOfOne (edges : List ℕ) (e : ℕ) (ts : List ℕ) (x : ℕ) : Type 0 where
  pub source : ℕ
  pub among : IsAmong source ts
  pub comes : ComesOf edges e x source

-- ---- laws

-- a transversal is minimal exactly where each of its marks has an edge that it meets in this mark alone
abbrev pub MinimalityIsCritical : Type 0
MinimalityIsCritical = (edges : List ℕ) (t : ℕ) → IsMinimal (IsTransversalOf edges) t ↔ (IsTransversalOf edges t × IsCritical edges t)
