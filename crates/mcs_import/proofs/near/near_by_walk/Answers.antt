use Rattle.std.proofs.Common.{◌≡◌, ◌<◌, ◌+◌, ◌++◌, ◌∙◌, ℕ, List, ap, arith, refl, subst, rules}
use Rattle.std.proofs.lemmas.List.{nil_from_length}
use Rattle.mcs_sets.specs.Sets.{common}
use Rattle.mcs_base.specs.Listings.{IsAmong, IsListing}
use Rattle.mcs_import.specs.Near.{IsNear, IsChanged}
use Rattle.mcs_import.proofs.NearLemmas.{near_begins, near_levels, next_same}
use Rattle.mcs_base.proofs.Walks.{walk_goes_on, walk_ends}
use Rattle.mcs_import.proofs.AllNear.{all_near}
use Rattle.mcs_import.proofs.near.near_by_walk.Goals as goal

pub loop-init : goal.loop-init
loop-init c = near_begins c.args.rules c.args.removable c.args.forcible c.args.sets.items c.requires.of_rules c.requires.ascending c.extend_from_slice.new.self.items c.args.sets.items
    (c.in_ok-extend_from_slice.ensures.items ∙ ap (λ (xs : List ℕ). xs ++ c.deref.result.now) c.new-reached.ensures.items ∙ c.deref.ensures.value) refl

pub returns-then-are_all : goal.returns-then-are_all
returns-then-are_all c = all_near c.args.rules c.args.removable c.args.forcible c.args.sets.items c.loop.counter c.args.level (omega arith) c.loop.reached.items c.loop.invariant.listing
    (search (rules, c.are_all.ensures c.if-are_all.true, c.len.ensures))

pub returns-then-is_empty : goal.returns-then-is_empty
returns-then-is_empty c = walk_ends (IsNear c.args.rules c.args.removable c.args.forcible c.args.sets.items) (IsChanged c.args.removable (common c.args.forcible c.args.rules))
    (near_levels c.args.rules c.args.removable c.args.forcible c.args.sets.items c.requires.of_rules)
    c.loop.counter c.loop.reached.items c.loop.front.items c.in_ok-front.front.items c.loop.invariant
    (next_same c.args.removable c.common-forcible.result (common c.args.forcible c.args.rules) c.deref-in-loop.result.now c.loop.front.items c.deref-in-loop-2.result.now c.loop.reached.items c.in_ok-front.front.items
    c.common-forcible.ensures c.deref-in-loop.ensures.value c.deref-in-loop-2.ensures.value c.in_ok-front.ensures)
    (nil_from_length c.in_ok-front.front.items (search (rules, c.if-is_empty.true, c.is_empty.ensures))) c.args.level (omega arith)

pub loop-preserved : goal.loop-preserved
loop-preserved c = walk_goes_on (IsNear c.args.rules c.args.removable c.args.forcible c.args.sets.items) (IsChanged c.args.removable (common c.args.forcible c.args.rules))
    (near_levels c.args.rules c.args.removable c.args.forcible c.args.sets.items c.requires.of_rules)
    c.loop.counter c.loop.reached.items c.loop.front.items c.in_ok-front.front.items c.loop.invariant
    (next_same c.args.removable c.common-forcible.result (common c.args.forcible c.args.rules) c.deref-in-loop.result.now c.loop.front.items c.deref-in-loop-2.result.now c.loop.reached.items c.in_ok-front.front.items
    c.common-forcible.ensures c.deref-in-loop.ensures.value c.deref-in-loop-2.ensures.value c.in_ok-front.ensures)
    (c.loop.counter + 1) refl c.list_rule_sets.new.sets.items
    (subst (λ (xs : List ℕ). IsListing (λ x. IsAmong x xs) (λ (a b : ℕ). a < b) c.list_rule_sets.new.sets.items)
    (c.in_ok-extend_from_slice-2.ensures.items ∙ ap (λ (xs : List ℕ). c.loop.reached.items ++ xs) c.deref-in-loop-3.ensures.value) c.list_rule_sets.ensures)

pub returns : goal.returns
returns c =
    let all : c.loop.counter ≡ c.args.level = omega arith in
    subst (λ (n : ℕ). IsListing (IsNear c.args.rules c.args.removable c.args.forcible c.args.sets.items n) (λ (a b : ℕ). a < b) c.loop.reached.items) all c.loop.invariant.listing
