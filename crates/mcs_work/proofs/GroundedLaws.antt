-- The listing of a plain system's grounded equilibria is there, it is one, and its stages are fronts of it.
use Rattle.std.proofs.Common.{ℕ, List, [], ◌++◌, length, inl, inr, refl, sym, ap, ◌∙◌}
use Rattle.std.proofs.lemmas.List.{append-nil}
use Rattle.mcs_sets.specs.Orders.{StateBefore}
use Rattle.mcs_sets.proofs.SetLemmas.{StateBefore-asymmetric}
use Rattle.mcs_base.proofs.ListingLemmas.{same_listing}
use Rattle.mcs_import.proofs.CountLemmas.{count_is_one}
use Rattle.mcs_system.specs.Systems.{all_rules}
use Rattle.mcs_existence.proofs.SystemListings.{all_states_listed}
use Rattle.mcs_existence.proofs.Counts.{counts_exist}
use Rattle.mcs_reduct.proofs.Decided.{grounded_listed}
use Rattle.mcs_work.specs.Grounded.{after_grounded, grounded_text, GroundedTextsAreOne, GroundedTextsExist, GroundedStagesAreFronts}

pub one_text : GroundedTextsAreOne
one_text m text other a b =
    a.text_is
    ∙ (ap (λ (states : List ℕ). grounded_text m states (length a.equilibria) a.need) (same_listing StateBefore StateBefore-asymmetric _ a.states b.states a.listing b.listing)
    ∙ (ap (λ (states : List ℕ). grounded_text m b.states (length states) a.need) (same_listing StateBefore StateBefore-asymmetric _ a.equilibria b.equilibria a.all b.all)
    ∙ (ap (grounded_text m b.states (length b.equilibria)) (count_is_one m 0 a.need b.need a.count b.count) ∙ sym b.text_is)))

pub stages_are_fronts : GroundedStagesAreFronts
stages_are_fronts m stage text (inl is) whole =
    let rest = after_grounded m whole.states (length whole.equilibria) whole.need in (rest, ap (λ s. s ++ rest) is ∙ sym whole.text_is)
stages_are_fronts m stage text (inr same) whole = ([], append-nil stage ∙ one_text m stage text same whole)

pub texts_exist : GroundedTextsExist
texts_exist m plain =
    let (all, equilibria) = all_states_listed m (all_rules m) 0 in
    let (states, listing) = grounded_listed m plain in
    let (need, count) = counts_exist m 0 in
    (grounded_text m states (length all) need, record { equilibria = all; all = equilibria; states = states; listing = listing; need = need; count = count; text_is = refl })
