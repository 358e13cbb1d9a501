use Rattle.std.proofs.Common.{rules, ◌≡◌, ◌∙◌, ◌<◌, ℕ, true, length, refl, sym, ap, subst, IsTrue, IfSome, Option}
use Rattle.mcs_base.proofs.Results.{none_where_never}
use Rattle.mcs_sets.specs.Sets.{has, minus, size, Within}
use Rattle.mcs_sets.proofs.Lattice.{none_within, with_within, in_minus}
use Rattle.mcs_system.specs.Seen.{default_of}
use Rattle.mcs_default.specs.Searches.{IsNextOf}
use Rattle.mcs_default.proofs.SearchLemmas.{IsDerivedPart, derived_none, derived_next, grounded_exactly, left_smaller, there_is}
use Rattle.mcs_default.proofs.SameLemmas.{same_items, same_on}
use Rattle.mcs_default.proofs.nodes.is_grounded.Goals as goal

pub loop-index-init : goal.loop-index-init
loop-index-init c = record {
  kept = (refl, refl);
  part = subst (λ (s : ℕ). Within s c.args.set) (sym c.empty-part.ensures) (none_within c.args.set);
  derived = λ items parts. subst (λ (s : ℕ). IsDerivedPart items c.args.set s) (sym c.empty-part.ensures) (derived_none items c.args.set);
}

pub loop-index-smaller : goal.loop-index-smaller
loop-index-smaller c =
    let found = subst (λ (o : Option ℕ). IfSome o (λ k. (k < length c.loop-index.search.theory.now.defaults.now) × IsTrue (has c.minus.result k))) c.in-Some.is c.in_ok-index.ensures.left in
    let left : has (minus c.args.set c.loop-index.part) c.in-Some.index ≡ true = sym (ap (λ (s : ℕ). has s c.in-Some.index) c.minus.ensures) ∙ found.1 in
    subst (λ (s : ℕ). size (minus c.args.set s) < size (minus c.args.set c.loop-index.part)) (sym c.with-part.ensures) (left_smaller c.args.set c.loop-index.part c.in-Some.index left)

pub loop-index-preserved : goal.loop-index-preserved
loop-index-preserved c =
    let set = c.args.set in
    let part = c.loop-index.part in
    let k = c.in-Some.index in
    let before = c.loop-index.invariant in
    let found = subst (λ (o : Option ℕ). IfSome o (λ k. (k < length c.loop-index.search.theory.now.defaults.now) × IsTrue (has c.minus.result k))) c.in-Some.is c.in_ok-index.ensures.left in
    let left : has (minus set part) k ≡ true = sym (ap (λ (s : ℕ). has s k) c.minus.ensures) ∙ found.1 in
    let member : has set k ≡ true = (in_minus set part k left).0 in
    record {
      kept = same_on c.in_ok-index.ensures.kept before.kept;
      part = subst (λ (s : ℕ). Within s set) (sym c.with-part.ensures) (with_within part k set before.part member);
      derived = λ items parts.
          (let now = same_items items before.kept parts in
          let supported = subst (IsNextOf items part c.minus.result) c.in-Some.is (c.in_ok-index.ensures.exact items now) in
          let there = there_is items (λ x. default_of x.now) c.loop-index.search.theory.now.defaults.now k found.0 now.0 in
          subst (λ (s : ℕ). IsDerivedPart items set s) (sym c.with-part.ensures) (derived_next items set part k there.0 there.1 member (supported there.0 there.1) (before.derived items parts)));
    }

pub returns : goal.returns
returns c = record {
  kept = search rules;
  exact = λ items parts. (let set = c.args.set in
      let part = c.loop-index.part in
      let now = same_items items c.loop-index.invariant.kept parts in
      let stuck = subst (IsNextOf items part c.minus.result) (none_where_never c.in_ok-index.field-0 c.in_default.not-Some) (c.in_ok-index.ensures.exact items now) in
      grounded_exactly items set part c.within.result c.loop-index.invariant.part (c.loop-index.invariant.derived items parts)
      (λ k left. stuck k (ap (λ (s : ℕ). has s k) c.minus.ensures ∙ left)) c.within.ensures);
}
