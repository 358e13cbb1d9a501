-- What a context is asked, whatever the numbers of rules and variables are.
use Rattle.std.specs.Prelude.{◌≡◌, ℕ, List, map, Some, slice_get}
use Rattle.mcs_sets.specs.Sets.{such_that, has, members}
use Rattle.mcs_sets.specs.Orders.{StateBefore}
use Rattle.std.specs.Prelude.{Bool, false, Option, None, length}
use Rattle.mcs_base.specs.Listings.{IsListing}
use Rattle.mcs_system.specs.Plain.{Formula, Context, System}
use Rattle.mcs_system.specs.Logic.{with_heads}
use Rattle.mcs_system.specs.Systems.{variables_of, heads_into, IsAcceptedPart}
use Rattle.mcs_system.specs.Views.{IsAcceptedView, beliefs_at}

-- the context, the heads that it is told, in the order of the rules, and the beliefs that are its variables
pub record Key : Type 0 where
  pub context : ℕ
  pub heads : List Formula
  pub beliefs : List Formula

-- the key of a question: of context i, with the heads of the rules of x
abbrev pub key_of : System → ℕ → ℕ → Key
key_of m i x = record { context = i; heads = heads_into m i x; beliefs = beliefs_at m (variables_of m i) }

-- the keys of questions to context i
abbrev pub keys_of : System → ℕ → List ℕ → List Key
keys_of m i xs = map (key_of m i) xs

-- ---- answers by places
abbrev pub has_some : ℕ → Option ℕ → Bool
has_some s None = false
has_some s (Some v) = has s v

-- the places, counted from 0, at which the members of the part stand among those of the set
unfoldable pub places_in : ℕ → ℕ → ℕ
places_in set part = such_that (length (members set)) (λ k. has_some part (slice_get (members set) k))

-- a projected belief set that context i accepts with the heads of x has, among the variables of i, those at these places
pub record IsAnswer (m : System) (i x places : ℕ) : Type 0 where
  pub part : ℕ
  pub accepted : IsAcceptedPart m i x part
  pub places_are : places ≡ places_in (variables_of m i) part

-- the views are the answer to the key, where the contexts are these
pub record AreViewsFor (contexts : List Context) (k : Key) (views : List ℕ) : Type 0 where
  pub context : Context
  pub is_it : slice_get contexts k.context ≡ Some context
  pub listed : IsListing (IsAcceptedView (with_heads context.kb k.heads) k.beliefs) StateBefore views
