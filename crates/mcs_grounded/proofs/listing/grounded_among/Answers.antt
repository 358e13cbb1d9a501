use Rattle.std.proofs.Common.{◌∙◌, ◌+◌, ℕ, List, length, sym, ap, subst, take, arith}
use Rattle.std.proofs.lemmas.List.{take_all}
use Rattle.mcs_sets.specs.Orders.{StateBefore}
use Rattle.mcs_base.specs.Listings.{IsAmong, IsListing}
use Rattle.mcs_base.proofs.ListingLemmas.{kept_more, left_out}
use Rattle.mcs_reduct.specs.Grounded.{IsGroundedState}
use Rattle.mcs_reduct.proofs.GroundedLaws.{grounded_states}
use Rattle.mcs_grounded.specs.Parts.{AreAllFound, AreConesOf, cones_of}
use Rattle.mcs_grounded.specs.Searches.{IsAnswer, AreFirstBounds}
use Rattle.mcs_grounded.specs.declared.cone.Cone.{Cone}
use Rattle.mcs_grounded.proofs.Candidates.{can_begin, not_grounded_state}
use Rattle.mcs_system.proofs.ValidLemmas.{few_contexts}
use Rattle.mcs_grounded.proofs.Loops.{own_of, written_back}
use Rattle.mcs_grounded.proofs.listing.grounded_among.Goals.{then-branch+in_ok-push, else-branch}
use Rattle.mcs_grounded.proofs.listing.grounded_among.Goals as goal

-- each state is a projected equilibrium
pub of-bounds-requires : goal.of-bounds-requires
of-bounds-requires c = omega (arith, ap length c.deref.ensures.value, c.in_ok-cones.ensures.one_each, few_contexts c.args.system.now c.in_ok-cones.ensures.valid)

pub search-requires-clause-bounds : goal.search-requires-clause-bounds
search-requires-clause-bounds c = can_begin _ c.of-bounds.result
    (record { plain = c.requires.plain; places = record { valid = c.heads_placed.ensures.valid; heads = c.heads_placed.ensures.placed; reads = c.reads_placed.ensures }; cones = subst (AreConesOf c.args.system.now) (sym c.deref-in-loop-state.ensures.value) c.in_ok-cones.ensures })
    (subst (λ (cones : List Cone). AreFirstBounds cones c.of-bounds.result) (c.deref.ensures.value ∙ sym c.deref-in-loop-state.ensures.value) c.of-bounds.ensures)
    ((c.requires.states.exactly c.state-item.result).0 (own_of c.args.states.now c.loop-state.state-index c.state-item.result c.loop-state-test.true c.state-item.is))

pub loop-state-init : goal.loop-state-init
loop-state-init c = record {
  found = c.in_ok-found.ensures;
  grounded = rw c.new-grounded.ensures.items (record { exactly = λ y. (λ among. absurd among, λ both. absurd both.0); ascending = tt });
}

pub loop-state-preserved : goal.loop-state-preserved
loop-state-preserved c =
    let m = c.args.system.now in
    let states = c.args.states.now in
    let k = c.loop-state.state-index in
    let state = c.state-item.result in
    let before = c.loop-state.invariant in
    record {
      found = subst (AreAllFound m) (sym (written_back c.loop-state.found.len c.loop-state.found.items c.search.new.found (omega (arith, c.search.auto.found)) (omega (arith, c.loop-state.found.ok)))) c.in_ok-search.ensures.found;
      grounded = elim c.if-branch.branch [
        | then-branch+in_ok-push w ↦ subst (IsListing (λ y. IsAmong y (take (k + 1) states) × IsGroundedState m y) StateBefore) (sym (ap (λ v. v.items) w.grounded-is ∙ w.in_ok-push.ensures.items))
            (kept_more StateBefore (IsGroundedState m) states k state c.loop-state-test.true c.state-item.is c.requires.states.ascending c.loop-state.grounded.items (subst (IsAnswer m state (cones_of c.deref-in-loop-state.result.now) c.of-bounds.result) w.if-branch.true c.in_ok-search.ensures.answer) before.grounded)
        | else-branch w ↦ subst (IsListing (λ y. IsAmong y (take (k + 1) states) × IsGroundedState m y) StateBefore) (sym (ap (λ v. v.items) w.grounded-is))
            (left_out StateBefore (IsGroundedState m) states k state c.loop-state-test.true c.state-item.is c.loop-state.grounded.items (not_grounded_state m c.deref-in-loop-state.result.now c.of-bounds.result (subst (λ (cones : List Cone). AreFirstBounds cones c.of-bounds.result) (c.deref.ensures.value ∙ sym c.deref-in-loop-state.ensures.value) c.of-bounds.ensures)
            state (subst (IsAnswer m state (cones_of c.deref-in-loop-state.result.now) c.of-bounds.result) w.if-branch.false c.in_ok-search.ensures.answer)) before.grounded)
      ];
    }

-- each grounded state is among all states
pub returns : goal.returns
returns c =
    let whole = subst (λ (xs : List ℕ). IsListing (λ y. IsAmong y xs × IsGroundedState c.args.system.now y) StateBefore c.loop-state.grounded.items) (take_all c.loop-state.state-index c.args.states.now c.loop-state-test.false) c.loop-state.invariant.grounded in record {
      exactly = λ y. (
        λ among. ((whole.exactly y).0 among).1,
        λ grounded. (whole.exactly y).1 ((c.requires.states.exactly y).1 (grounded_states c.args.system.now y c.requires.plain grounded), grounded),
      );
      ascending = whole.ascending;
    }

pub bounds-states-state-index : goal.bounds-states-state-index
bounds-states-state-index c = c.loop-state-test.true

pub search-requires-clause-derivation : goal.search-requires-clause-derivation
search-requires-clause-derivation c = record {
  set_up = record { plain = c.requires.plain; places = record { valid = c.heads_placed.ensures.valid; heads = c.heads_placed.ensures.placed; reads = c.reads_placed.ensures }; cones = subst (AreConesOf c.args.system.now) (sym c.deref-in-loop-state.ensures.value) c.in_ok-cones.ensures };
  found = rw c.deref_mut.ensures.value c.loop-state.invariant.found;
}
