use Rattle.std.proofs.Common.{◌≡◌, ◌≤◌, ℕ, List, Some, subst}
use Rattle.mcs_sets.specs.Orders.{PairBefore}
use Rattle.mcs_sets.specs.Sets.{size}
use Rattle.mcs_base.specs.Listings.{IsAmong, IsListing}
use Rattle.mcs_mesh.specs.Found.{AreRepairsFound}
use Rattle.mcs_mesh.proofs.FoundLemmas.{found_few}
use Rattle.mcs_mesh.proofs.found.Found.repairs.Goals.{then-not-is_reached+in_ok-find, else-not-is_reached}
use Rattle.mcs_mesh.proofs.found.Found.repairs.Goals as goal

pub returns-clause-listing : goal.returns-clause-listing
returns-clause-listing g c =
    let found = c.if-not-is_reached.self in
    let kept : AreRepairsFound c.args.plan.now found.level found.pairs.items = elim c.if-not-is_reached.branch [ then-not-is_reached+in_ok-find w ↦ rw w.self-is w.find.ensures.kept | else-not-is_reached w ↦ rw w.self-is c.requires.before ] in
    let reached : (d : ℕ) × (found.level ≡ Some d) × (c.args.level ≤ d) = elim c.if-not-is_reached.branch [ then-not-is_reached+in_ok-find w ↦ rw w.self-is w.in_ok-find.ensures.found | else-not-is_reached w ↦ rw w.self-is (c.is_reached.ensures.yes w.if-not-is_reached.false) ] in
    let listed : IsListing (λ p. IsAmong p found.pairs.items × (size p ≤ c.args.level)) PairBefore c.in_ok-few.few.items = subst (λ (xs : List ℕ). IsListing (λ p. IsAmong p xs × (size p ≤ c.args.level)) PairBefore c.in_ok-few.few.items) c.deref.ensures.value c.in_ok-few.ensures in
    found_few c.args.plan.now c.args.level found.level found.pairs.items c.in_ok-few.few.items kept reached listed
