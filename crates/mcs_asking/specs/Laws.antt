-- What an accepted certificate shows.
use Rattle.std.specs.Prelude.{ℕ, List}
use Rattle.mcs_sets.specs.Orders.{StateBefore}
use Rattle.mcs_base.specs.Listings.{IsListing}
use Rattle.mcs_system.specs.Faults.{IsValid}
use Rattle.mcs_system.specs.Plain.{System}
use Rattle.mcs_system.specs.Systems.{IsAcceptedPart}
use Rattle.mcs_asking.specs.Certificates.{Certificate, IsAccepted}

-- in a valid system the outputs of an accepted certificate are the listing of what the context accepts with the heads of the rules
abbrev pub AcceptedAnswersAreRight : Type 0
AcceptedAnswersAreRight = (m : System) (i x : ℕ) (outputs : List ℕ) (cert : Certificate) → IsValid m
    → IsAccepted m i x outputs cert → IsListing (IsAcceptedPart m i x) StateBefore outputs
