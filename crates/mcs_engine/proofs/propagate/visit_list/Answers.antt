use Rattle.std.proofs.Common.{◌≡◌, ℕ, ℤ, List, ◌<◌, ◌^◌, length, neg_ℤ, unsigned_abs, slice_get, get_or, swap_remove, Some, sym, ap, refl, ◌∙◌, subst, arith, w64, to_z, of_z, to_z-of_z}
use Rattle.std.proofs.lemmas.Option.{slice_get-get_or}
use Rattle.mcs_trace.specs.Clauses.{IsLiteral, place}
use Rattle.mcs_engine.specs.declared.propagate.Seen.TheVariants as seen
use Rattle.mcs_engine.specs.declared.watches.Watches.{Watches}
use Rattle.mcs_engine.specs.Extending.{Extends}
use Rattle.mcs_engine.specs.Lists.{list_at}
use Rattle.mcs_engine.specs.Trails.{IsOn}
use Rattle.mcs_engine.specs.Watching.{IsClauseSeen, KeepsWatches}
use Rattle.mcs_engine.proofs.GrowLemmas.{on-grown}
use Rattle.mcs_engine.proofs.Keeping.{extends-none, extends-then, keeps-lists, keeps-then}
use Rattle.mcs_engine.proofs.TrailLemmas.{off-literal}
use Rattle.mcs_engine.proofs.WatchLemmas.{length-swap_remove, passed-more, passed-swap, visited-all, watched-swap}
use Rattle.mcs_engine.proofs.propagate.visit_list.Goals.{After-visit}
use Rattle.mcs_engine.proofs.propagate.visit_list.Goals as goal

-- ---- a clause was visited
less_at : (c : After-visit) → c.loop-at.at < length (list_at c.loop-at.watches.lists c.place-list.result)
less_at c = subst (λ (list : List ℕ). c.loop-at.at < length list) c.get.ensures c.loop-at-test.true

index_at : (c : After-visit) → slice_get (list_at c.loop-at.watches.lists c.place-list.result) c.loop-at.at ≡ Some (get_or c.get-in-loop-at.result.now c.loop-at.at 0)
index_at c =
    ap (λ (list : List ℕ). slice_get list c.loop-at.at) (sym c.get-in-loop-at.ensures)
    ∙ slice_get-get_or c.get-in-loop-at.result.now c.loop-at.at 0 (subst (λ (list : List ℕ). c.loop-at.at < length list) (sym c.get-in-loop-at.ensures) (less_at c))

same_list : (c : After-visit) → list_at c.visit.new.watches.lists c.place-list.result ≡ list_at c.loop-at.watches.lists c.place-list.result
same_list c = subst (λ (n : ℕ). list_at c.visit.new.watches.lists n ≡ list_at c.loop-at.watches.lists n) (sym c.place-list.ensures) c.visit.ensures.list

extends : (c : After-visit) → Extends c.args.clauses.now c.args.level c.args.trail.now c.visit.new.trail
extends c = extends-then c.args.clauses.now c.args.level c.args.trail.now c.loop-at.trail c.visit.new.trail c.loop-at.invariant.trail c.visit.ensures.extends

kept : (c : After-visit) → KeepsWatches c.args.clauses.now c.args.watches.now c.visit.new.watches c.args.trail.now.entries.items
kept c = keeps-then c.args.clauses.now c.args.level c.args.trail.now c.loop-at.trail c.args.watches.now c.loop-at.watches c.visit.new.watches c.requires.trail c.loop-at.invariant.trail.grows c.loop-at.invariant.watches c.visit.ensures.kept

pub returns-in_err-visit-clause-extends : goal.returns-in_err-visit-clause-extends
returns-in_err-visit-clause-extends c = extends (goal.at.returns-in_err-visit-clause-extends c).After-visit

pub returns-in-Conflict-clause-extends : goal.returns-in-Conflict-clause-extends
returns-in-Conflict-clause-extends c = extends (goal.at.returns-in-Conflict-clause-extends c).After-visit

pub returns-clause-extends : goal.returns-clause-extends
returns-clause-extends c = c.loop-at.invariant.trail

pub returns-in_err-visit-clause-kept : goal.returns-in_err-visit-clause-kept
returns-in_err-visit-clause-kept c = kept (goal.at.returns-in_err-visit-clause-kept c).After-visit

pub returns-in-Conflict-clause-kept : goal.returns-in-Conflict-clause-kept
returns-in-Conflict-clause-kept c = kept (goal.at.returns-in-Conflict-clause-kept c).After-visit

pub returns-clause-kept : goal.returns-clause-kept
returns-clause-kept c = c.loop-at.invariant.watches

pub visit-requires-clause-trail : goal.visit-requires-clause-trail
visit-requires-clause-trail c = c.loop-at.invariant.trail.trail

pub visit-requires-clause-watched : goal.visit-requires-clause-watched
visit-requires-clause-watched c = c.loop-at.invariant.watches.watched

pub visit-requires-clause-off : goal.visit-requires-clause-off
visit-requires-clause-off c = on-grown c.args.level c.args.trail.now.entries.items c.loop-at.trail.entries.items _ c.loop-at.invariant.trail.grows (subst (λ (l : ℤ). IsOn c.args.trail.now.entries.items (neg_ℤ l)) (sym (to_z-of_z c.ranges.literal)) c.requires.off)

pub place-list-requires : goal.place-list-requires
place-list-requires c =
    let literal : IsLiteral c.args.literal = off-literal c.args.trail.now.entries.items c.args.trail.now.positions.items c.args.literal c.args.trail.now.placed c.requires.off in
    subst (λ (l : ℤ). unsigned_abs l < 2 ^ 63) (sym (to_z-of_z c.ranges.literal)) literal.1

pub loop-at-init : goal.loop-at-init
loop-at-init c = record {
  trail = extends-none c.args.clauses.now c.args.level c.args.trail.now c.requires.trail;
  watches = keeps-lists c.args.clauses.now c.args.watches.now c.args.watches.now c.args.trail.now.entries.items c.requires.watched refl refl;
  passed = λ j i d less. absurd (omega arith);
}

-- ---- it is satisfied
pub loop-at-smaller-in-Satisfied : goal.loop-at-smaller-in-Satisfied
loop-at-smaller-in-Satisfied c = let at = (goal.at.loop-at-smaller-in-Satisfied c).After-visit in omega (arith, ap length (same_list at), less_at at)

pub loop-at-preserved-in-Satisfied : goal.loop-at-preserved-in-Satisfied
loop-at-preserved-in-Satisfied c =
    let at = (goal.at.loop-at-preserved-in-Satisfied c).After-visit in
    let index : ℕ = get_or c.get-in-loop-at.result.now c.loop-at.at 0 in
    record {
      trail = extends at;
      watches = kept at;
      passed = passed-more c.args.clauses.now (list_at c.loop-at.watches.lists c.place-list.result) (list_at c.visit.new.watches.lists c.place-list.result) c.args.level c.loop-at.trail.entries.items c.visit.new.trail.entries.items c.loop-at.at
          c.visit.ensures.extends.grows c.loop-at.invariant.passed (same_list at) index (index_at at)
          (subst (IsClauseSeen c.args.clauses.now c.visit.new.watches c.visit.new.trail.entries.items index (to_z w64 (of_z w64 c.args.literal))) c.in-Satisfied.is c.in_ok-visit.ensures.seen);
    }

-- ---- it is gone
pub swap_remove-requires : goal.swap_remove-requires
swap_remove-requires c = let at = (goal.at.swap_remove-requires c).After-visit in subst (λ (list : List ℕ). c.loop-at.at < length list) (sym (same_list at)) (less_at at)

pub loop-at-smaller : goal.loop-at-smaller
loop-at-smaller c =
    let at = (goal.at.loop-at-smaller c).After-visit in
    let list : List ℕ = list_at c.visit.new.watches.lists c.place-list.result in
    let less : c.loop-at.at < length list = subst (λ (xs : List ℕ). c.loop-at.at < length xs) (sym (same_list at)) (less_at at) in
    omega (arith, ap length (same_list at), less, ap length c.swap_remove.ensures.list.here, length-swap_remove list c.loop-at.at c.swap_remove.result less)

pub loop-at-preserved : goal.loop-at-preserved
loop-at-preserved c =
    let at = (goal.at.loop-at-preserved c).After-visit in
    let list : List ℕ = list_at c.visit.new.watches.lists c.place-list.result in
    let x : ℕ = c.swap_remove.result in
    let index : ℕ = get_or c.get-in-loop-at.result.now c.loop-at.at 0 in
    let l : ℤ = to_z w64 (of_z w64 c.args.literal) in
    let w : Watches = record { pairs = c.visit.new.watches.pairs; lists = c.swap_remove.new.self; short = c.visit.new.watches.short } in
    let both : Some x ≡ Some index = sym c.swap_remove.ensures.value ∙ ap (λ (xs : List ℕ). slice_get xs c.loop-at.at) (same_list at) ∙ index_at at in
    let x-is : x ≡ index = cc in
    let gone : IsClauseSeen c.args.clauses.now c.visit.new.watches c.visit.new.trail.entries.items index l seen.Gone =
    subst (IsClauseSeen c.args.clauses.now c.visit.new.watches c.visit.new.trail.entries.items index l) c.in-Gone.is c.in_ok-visit.ensures.seen in
    let e = extends at in
    record {
      trail = e;
      watches = keeps-then c.args.clauses.now c.args.level c.args.trail.now c.visit.new.trail c.args.watches.now c.visit.new.watches w c.requires.trail e.grows (kept at)
          (keeps-lists c.args.clauses.now c.visit.new.watches w c.visit.new.trail.entries.items
          (watched-swap c.args.clauses.now c.visit.new.watches w l c.place-list.result c.loop-at.at x c.visit.ensures.kept.watched refl refl c.place-list.ensures
          c.swap_remove.ensures.value c.swap_remove.ensures.list.here c.swap_remove.ensures.list.others (λ q is. gone q (sym (ap (slice_get c.visit.new.watches.pairs) x-is) ∙ is))) refl refl);
      passed = passed-swap c.args.clauses.now (list_at c.loop-at.watches.lists c.place-list.result) _ c.args.level c.loop-at.trail.entries.items c.visit.new.trail.entries.items c.loop-at.at
          c.visit.ensures.extends.grows c.loop-at.invariant.passed (less_at at) x (c.swap_remove.ensures.list.here ∙ ap (λ (xs : List ℕ). swap_remove xs c.loop-at.at x) (same_list at));
    }

-- ---- all of the list
pub returns-clause-found : goal.returns-clause-found
returns-clause-found c =
    let past = c.loop-at-test.false in
    visited-all c.args.clauses.now c.loop-at.watches c.loop-at.trail.entries.items c.args.literal c.place-list.result c.loop-at.at c.loop-at.invariant.watches.watched
    (off-literal c.args.trail.now.entries.items c.args.trail.now.positions.items c.args.literal c.args.trail.now.placed c.requires.off)
    (c.place-list.ensures ∙ ap place (to_z-of_z c.ranges.literal)) (omega (arith, ap length c.get.ensures)) c.loop-at.invariant.passed
