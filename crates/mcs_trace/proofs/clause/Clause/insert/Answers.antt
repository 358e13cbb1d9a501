use Rattle.std.proofs.Common.{◌≡◌, ◌⊎◌, subst, ℤ, List, w64, to_z, of_z, to_z-of_z}
use Rattle.mcs_base.specs.Listings.{IsAmong, IsListing}
use Rattle.mcs_trace.specs.Clauses.{LiteralBefore}
use Rattle.mcs_trace.proofs.InsertLemmas.{inserted, had}
use Rattle.mcs_trace.proofs.clause.Clause.insert.Goals as goal

pub invariant_of-self : goal.invariant_of-self
invariant_of-self c =
    (inserted c.args.literal (to_z w64 (of_z w64 c.args.literal)) c.self.inside.lits.items c.deref.result.now c.deref-2.result.now c.insert.new.self.items c.place_in-index.result c.is_at.result
    (to_z-of_z c.ranges.literal) c.deref.ensures.value c.deref-2.ensures.value c.requires c.self.invariant c.place_in-index.ensures.before c.place_in-index.ensures.after c.is_at.ensures.1 c.if-not-is_at.true c.in_ok-insert.ensures.items).0

pub returns-in_ok-insert-clause-ok : goal.returns-in_ok-insert-clause-ok
returns-in_ok-insert-clause-ok c =
    subst (λ (x : List ℤ). IsListing (λ k. (k ≡ c.args.literal) ⊎ IsAmong k x) LiteralBefore c.insert.new.self.items) c.self.view_is
    (inserted c.args.literal (to_z w64 (of_z w64 c.args.literal)) c.self.inside.lits.items c.deref.result.now c.deref-2.result.now c.insert.new.self.items c.place_in-index.result c.is_at.result
    (to_z-of_z c.ranges.literal) c.deref.ensures.value c.deref-2.ensures.value c.requires c.self.invariant c.place_in-index.ensures.before c.place_in-index.ensures.after c.is_at.ensures.1 c.if-not-is_at.true c.in_ok-insert.ensures.items).1

pub returns-else-not-is_at-clause-ok : goal.returns-else-not-is_at-clause-ok
returns-else-not-is_at-clause-ok c =
    subst (λ (x : List ℤ). IsListing (λ k. (k ≡ c.args.literal) ⊎ IsAmong k x) LiteralBefore x) c.self.view_is
    (had c.args.literal (to_z w64 (of_z w64 c.args.literal)) c.self.inside.lits.items c.deref-2.result.now c.place_in-index.result (to_z-of_z c.ranges.literal) c.deref-2.ensures.value c.self.invariant (c.is_at.ensures.0 c.if-not-is_at.false))
