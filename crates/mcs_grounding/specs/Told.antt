-- What the answers to questions about the prerequisites of defaults say, and about their order.
use Rattle.std.specs.Prelude.{◌≡◌, ℕ, ◌+◌, ◌<◌, IsTrue, ◌↔◌, List, ◌++◌, map, Some, slice_get}
use Rattle.mcs_sets.specs.Sets.{has, minus, Within}
use Rattle.mcs_base.specs.Listings.{IsAmong, AreApart}
use Rattle.mcs_system.specs.Plain.{Name, Formula, Default, Item}
use Rattle.mcs_cnf.specs.Entailments.{entailment_of}
use Rattle.mcs_evidence.specs.Defaults.{defaults_of, defaults_at, IsEntailmentShown, AreDenied, AreGrounded}
use Rattle.mcs_grounding.specs.Theories.{consequents}
use Rattle.mcs_trace.specs.declared.certificate.Entail.{Entail}
use Rattle.mcs_grounding.specs.declared.grounding.Order as ordered
use Rattle.mcs_grounding.specs.declared.grounding.Next as next
use Rattle.mcs_grounding.specs.declared.grounding.Next.TheVariants as next_variants
use Rattle.mcs_grounding.specs.declared.grounding.Grounding as grounding
use Rattle.mcs_grounding.specs.declared.grounding.Grounding.TheVariants as grounding_variants

-- the order has these numbers and what shows the prerequisites
pub record IsOrder (ns : List ℕ) (es : List Entail) (o : ordered.Order) : Type 0 where
  pub numbers : o.numbers.items ≡ ns
  pub pres : o.pres.items ≡ es

-- the prerequisites of the defaults of the set
abbrev pub prerequisites : List Default → ℕ → List Formula
prerequisites ds set = map (λ (d : Default). d.pre) (defaults_at 0 ds set)

abbrev pub IsToldNext : List Name → List Formula → List Default → ℕ → next.Next → Type 0
IsToldNext names fs ds left (next_variants.Supported k pre) = (d : Default) × (slice_get ds k ≡ Some d) × IsEntailmentShown names fs d.pre (entailment_of pre)
IsToldNext names fs ds left (next_variants.Stuck es) = AreDenied names fs (prerequisites ds left) (map entailment_of es.items)

-- a default that is found is one of those that are left
abbrev pub IsNextInRange : ℕ → ℕ → next.Next → Type 0
IsNextInRange n left (next_variants.Supported k pre) = (k < n) × IsTrue (has left k)
IsNextInRange n left (next_variants.Stuck es) = Unit {0}

-- the numbers of the defaults of the set, each once
abbrev pub AreDefaultNumbers : ℕ → List ℕ → Type 0
AreDefaultNumbers set order = AreApart order × ((number : ℕ) → IsAmong number order ↔ ((k : ℕ) × (number ≡ k + 1) × IsTrue (has set k)))

abbrev pub IsToldOfOrder : List Name → List Formula → List Default → ℕ → grounding.Grounding → Type 0
IsToldOfOrder names fs ds set (grounding_variants.Grounded order pres) =
    AreDefaultNumbers set order.items × ((items : List Item) → ds ≡ defaults_of items → AreGrounded names items fs order.items (map entailment_of pres.items))
IsToldOfOrder names fs ds set (grounding_variants.Stuck closed es) =
    Within closed set × (¬ (closed ≡ set)) × AreDenied names (fs ++ consequents ds closed) (prerequisites ds (minus set closed)) (map entailment_of es.items)
