-- The listing of a system's equilibria is one, and its stages are fronts of it.
use Rattle.std.proofs.Common.{ℕ, List, [], ◌++◌, inl, inr, refl, sym, ap, ◌∙◌}
use Rattle.std.proofs.lemmas.List.{append-nil}
use Rattle.mcs_system.specs.Systems.{all_rules}
use Rattle.mcs_existence.proofs.SystemListings.{all_states_listed}
use Rattle.mcs_existence.proofs.Counts.{counts_exist}
use Rattle.mcs_import.proofs.CountLemmas.{count_is_one}
use Rattle.mcs_base.proofs.ListingLemmas.{same_listing}
use Rattle.mcs_sets.specs.Orders.{StateBefore}
use Rattle.mcs_sets.proofs.SetLemmas.{StateBefore-asymmetric}
use Rattle.mcs_report.specs.Listing.{equilibria_text, after_heading, EquilibriaTextsAreOne, StagesAreFronts, EquilibriaTextsExist}

pub one_text : EquilibriaTextsAreOne
one_text m text other a b =
    a.text_is
    ∙ (ap (λ (states : List ℕ). equilibria_text m states a.need) (same_listing StateBefore StateBefore-asymmetric _ a.states b.states a.listing b.listing)
    ∙ (ap (equilibria_text m b.states) (count_is_one m 0 a.need b.need a.count b.count) ∙ sym b.text_is))

pub stages_are_fronts : StagesAreFronts
stages_are_fronts m stage text (inl is) whole = (after_heading m whole.states whole.need, ap (λ s. s ++ after_heading m whole.states whole.need) is ∙ sym whole.text_is)
stages_are_fronts m stage text (inr same) whole = ([], append-nil stage ∙ one_text m stage text same whole)

pub texts_exist : EquilibriaTextsExist
texts_exist m =
    let (states, listing) = all_states_listed m (all_rules m) 0 in
    let (need, count) = counts_exist m 0 in
    (equilibria_text m states need, record { states = states; listing = listing; need = need; count = count; text_is = refl })
