-- Variables, applicable rules, equilibria and their projections.
use Rattle.std.specs.Prelude.{◌≡◌, ℕ, ◌+◌, nat_eq, Bool, true, false, not, ◌&&◌, IsTrue, List, [], ◌∷◌, ◌++◌, filter, cond, length, ◌⊎◌, ◌↔◌, Option, Some, None, slice_get}
use Rattle.std.specs.List.{list_any, list_all, AllByRecursion, flat_map, range_with_len, enumerate_from}
use Rattle.mcs_sets.specs.Sets.{has, common, union, such_that, Within}
use Rattle.mcs_base.specs.Listings.{firsts}
use Rattle.mcs_system.specs.Trees.{same_tree}
use Rattle.mcs_system.specs.Plain.{Formula, Context, Read, Bridge, System}
use Rattle.mcs_system.specs.Logic.{same_name, Entails, BeliefSet, Believes, Accepts, with_heads}

abbrev pub same_formula : Formula → Formula → Bool
same_formula f g = same_tree same_name f g

abbrev pub same_read : Read → Read → Bool
same_read q r = nat_eq q.context r.context && same_formula q.belief r.belief

-- all reads, rule by rule, in each the positive ones first
abbrev pub occurrences : System → List Read
occurrences m = flat_map (λ (b : Bridge). b.pos ++ b.neg) m.bridges

abbrev pub context_variables : System → ℕ → List Read
context_variables m i = firsts same_read (filter (λ r. nat_eq r.context i) (occurrences m))

-- by context, and within a context by first occurrence
unfoldable pub variables : System → List Read
variables m = flat_map (context_variables m) (range_with_len 0 (length m.contexts))

abbrev pub is_of_context : ℕ → Option Read → Bool
is_of_context i None = false
is_of_context i (Some r) = nat_eq r.context i

-- the variables of the context
unfoldable pub variables_of : System → ℕ → ℕ
variables_of m i = such_that (length (variables m)) (λ v. is_of_context i (slice_get (variables m) v))

-- all rules
abbrev pub all_rules : System → ℕ
all_rules m = such_that (length m.bridges) (λ r. true)

-- ---- a belief state has one belief set for each context
abbrev pub BelievesIn : List BeliefSet → Read → Type 0
BelievesIn s r = (b : BeliefSet) × (slice_get s r.context ≡ Some b) × Believes b r.belief

pub record Applies (b : Bridge) (s : List BeliefSet) : Type 0 where
  pub all_believed : AllByRecursion (BelievesIn s) b.pos
  pub none_believed : AllByRecursion (λ r. ¬ BelievesIn s r) b.neg

-- the heads, in order, of the rules of x into context i, where the first rule has number k
abbrev pub heads_from : ℕ → List Bridge → ℕ → ℕ → List Formula
heads_from k [] i x = []
heads_from k (b ∷ bs) i x = cond (has x k && nat_eq b.target i) (b.head ∷ heads_from (k + 1) bs i x) (heads_from (k + 1) bs i x)

abbrev pub heads_into : System → ℕ → ℕ → List Formula
heads_into m i x = heads_from 0 m.bridges i x

-- the context accepts b with the heads of the rules of x
abbrev pub AcceptsWith : System → ℕ → ℕ → BeliefSet → Type 0
AcceptsWith m i x b = (c : Context) × (slice_get m.contexts i ≡ Some c) × Accepts (with_heads c.kb (heads_into m i x)) b

-- s is an equilibrium where the rules of r1 are applied if applicable, and those of r2 always
pub record IsEquilibrium (m : System) (r1 r2 : ℕ) (s : List BeliefSet) : Type 0 where
  pub one_each : length s ≡ length m.contexts
  -- the rules that act
  pub acting : ℕ
  pub of_rules : Within acting (all_rules m)
  pub acting_is : (k : ℕ) (b : Bridge) → slice_get m.bridges k ≡ Some b → IsTrue (has acting k) ↔ ((IsTrue (has r1 k) × Applies b s) ⊎ IsTrue (has r2 k))
  pub accepted : (i : ℕ) (b : BeliefSet) → slice_get s i ≡ Some b → AcceptsWith m i acting b

-- v is the number of the read r
abbrev pub IsVariable : System → ℕ → Read → Type 0
IsVariable m v r = slice_get (variables m) v ≡ Some r

-- the set of variables that are believed
abbrev pub IsProjection : System → List BeliefSet → ℕ → Type 0
IsProjection m s σ = (v : ℕ) → IsTrue (has σ v) ↔ ((r : Read) × IsVariable m v r × BelievesIn s r)

-- σ is among the projected equilibria of the system changed to (r1, r2)
pub record IsProjectedEquilibrium (m : System) (r1 r2 σ : ℕ) : Type 0 where
  pub state : List BeliefSet
  pub balanced : IsEquilibrium m r1 r2 state
  pub projection : IsProjection m state σ

-- a system is consistent where it has an equilibrium
pub record IsConsistent (m : System) : Type 0 where
  pub equilibrium : ℕ
  pub balanced : IsProjectedEquilibrium m (all_rules m) 0 equilibrium

-- τ is the projection of a belief set that context i accepts with the heads of x
pub record IsAcceptedPart (m : System) (i x τ : ℕ) : Type 0 where
  pub belief : BeliefSet
  pub accepted : AcceptsWith m i x belief
  pub part : (v : ℕ) → IsTrue (has τ v) ↔ ((r : Read) × IsVariable m v r × (r.context ≡ i) × Believes belief r.belief)

-- v is a variable of context i that follows from the formulas
abbrev pub Follows : System → ℕ → List Formula → ℕ → Type 0
Follows m i formulas v = (r : Read) × IsVariable m v r × (r.context ≡ i) × Entails formulas r.belief

-- ---- the same over a set of variables
abbrev pub believed_among : List Read → ℕ → Read → Bool
believed_among vars σ r = list_any (λ v. has σ v.0 && same_read v.1 r) (enumerate_from 0 vars)

abbrev pub believed_at : System → ℕ → Read → Bool
believed_at m σ r = believed_among (variables m) σ r

abbrev pub applies_among : List Read → ℕ → Bridge → Bool
applies_among vars σ b = list_all (believed_among vars σ) b.pos && list_all (λ r. not (believed_among vars σ r)) b.neg

abbrev pub applies_at : System → ℕ → Bridge → Bool
applies_at m σ b = applies_among (variables m) σ b

abbrev pub applies_there : List Read → ℕ → Option Bridge → Bool
applies_there vars σ None = false
applies_there vars σ (Some b) = applies_among vars σ b

abbrev pub is_applicable : System → ℕ → Option Bridge → Bool
is_applicable m σ b = applies_there (variables m) σ b

-- the rules that are applicable in σ
unfoldable pub applicable : System → ℕ → ℕ
applicable m σ = such_that (length m.bridges) (λ k. is_applicable m σ (slice_get m.bridges k))

-- the rules that act in σ where those of r1 are applied if applicable, and those of r2 always
abbrev pub acting_at : System → ℕ → ℕ → ℕ → ℕ
acting_at m σ r1 r2 = union (common (applicable m σ) r1) r2

abbrev pub all_variables : System → ℕ
all_variables m = such_that (length (variables m)) (λ v. true)
