-- That each system has a listing of its projected equilibria, since each context has one of what it accepts.
use Rattle.std.proofs.Common.{ℕ, List, map, inl, inr, ◌⊎◌}
use Rattle.mcs_sets.specs.Orders.{StateBefore}
use Rattle.mcs_base.specs.Listings.{IsListing, IsAmong}
use Rattle.mcs_base.proofs.Among.{cases_among}
use Rattle.mcs_base.proofs.Lists.{slice_get_below}
use Rattle.mcs_system.specs.Plain.{Formula, Kb, OfKind, System}
use Rattle.mcs_system.specs.Logic.{with_heads}
use Rattle.mcs_system.specs.Systems.{variables_of, heads_into, IsAcceptedPart}
use Rattle.mcs_system.specs.Views.{IsAcceptedView, beliefs_at, at_places}
use Rattle.mcs_laws.proofs.Existence.{DecidesParts, states_listed}
use Rattle.mcs_laws.proofs.Views.{view_listings}
use Rattle.mcs_asking.proofs.KindItems.{listed_in}
use Rattle.mcs_existence.specs.Laws.{StatesHaveAListing}

-- what a knowledge base accepts
views_listed : (kb : Kb) (beliefs : List Formula) → (outputs : List ℕ) × IsListing (IsAcceptedView kb beliefs) StateBefore outputs
views_listed (OfKind k items) beliefs = listed_in k items beliefs

pub parts_decided : (m : System) → DecidesParts m
unfolding DecidesParts
parts_decided m i x τ less =
    let (c, is) = slice_get_below m.contexts i less in
    let (views, listing) = views_listed (with_heads c.kb (heads_into m i x)) (beliefs_at m (variables_of m i)) in
    let parts = view_listings m i x c views is listing in
    at (map (at_places (variables_of m i)) views) parts (cases_among τ (map (at_places (variables_of m i)) views))
  where
    at : (xs : List ℕ) → IsListing (IsAcceptedPart m i x) StateBefore xs → IsAmong τ xs ⊎ (¬ IsAmong τ xs) → IsAcceptedPart m i x τ ⊎ (¬ IsAcceptedPart m i x τ)
    at xs parts (inl among) = inl ((parts.exactly τ).0 among)
    at xs parts (inr none) = inr (λ h. none ((parts.exactly τ).1 h))

pub all_states_listed : StatesHaveAListing
all_states_listed m r1 r2 = states_listed m r1 r2 (parts_decided m)
