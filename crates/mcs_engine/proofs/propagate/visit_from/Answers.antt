use Rattle.std.proofs.Common.{◌≡◌, ℕ, ℤ, List, ◌<◌, ◌≤◌, length, neg_ℤ, Option, None, MatchOption, refl, sym, ap, ◌∙◌, subst, arith, w64, to_z, of_z}
use Rattle.mcs_base.proofs.Booleans.{none_from_not_some}
use Rattle.mcs_trace.specs.Clauses.{IsLiteral}
use Rattle.mcs_trace.proofs.OrderLemmas.{read_literal}
use Rattle.mcs_engine.specs.declared.trail.Entry.{Entry}
use Rattle.mcs_engine.specs.Extending.{Extends}
use Rattle.mcs_engine.specs.Trails.{IsFalseAt, literal_at}
use Rattle.mcs_engine.specs.Watching.{AreVisited, IsReached, KeepsWatches}
use Rattle.mcs_engine.proofs.GrowLemmas.{entry-grown, grows-longer, neg_literal}
use Rattle.mcs_engine.proofs.Keeping.{extends-none, extends-then, keeps-lists, keeps-then}
use Rattle.mcs_engine.proofs.TrailLemmas.{placed-most}
use Rattle.mcs_engine.proofs.WatchLemmas.{reached-grown, reached-next}
use Rattle.mcs_engine.proofs.propagate.visit_from.Goals.{After-negated-literal, After-visit_list}
use Rattle.mcs_engine.proofs.propagate.visit_from.Goals as goal

less : (c : After-negated-literal) → c.loop-from.from < length c.loop-from.trail.entries.items
less c = let ok = c.loop-from.trail.entries.ok.0 in omega arith

-- the literal that became false
read : (c : After-negated-literal) → to_z w64 (of_z w64 c.negated-literal.result) ≡ neg_ℤ (literal_at c.loop-from.trail.entries.items c.loop-from.from)
read c =
    let l : ℤ = c.negated-literal.result in
    read_literal l (subst IsLiteral (sym c.negated-literal.ensures) (neg_literal (literal_at c.loop-from.trail.entries.items c.loop-from.from) (c.loop-from.trail.placed c.loop-from.from (less c)).0)) ∙ c.negated-literal.ensures

extends : (c : After-visit_list) → Extends c.args.clauses.now c.args.level c.args.trail.now c.visit_list.new.trail
extends c = extends-then c.args.clauses.now c.args.level c.args.trail.now c.loop-from.trail c.visit_list.new.trail c.loop-from.invariant.trail c.visit_list.ensures.extends

kept : (c : After-visit_list) → KeepsWatches c.args.clauses.now c.args.watches.now c.visit_list.new.watches c.args.trail.now.entries.items
kept c = keeps-then c.args.clauses.now c.args.level c.args.trail.now c.loop-from.trail c.args.watches.now c.loop-from.watches c.visit_list.new.watches c.requires.trail c.loop-from.invariant.trail.grows c.loop-from.invariant.watches c.visit_list.ensures.kept

now : (c : After-visit_list) (settled : ℕ) → IsReached c.args.clauses.now c.args.watches.now c.args.trail.now.entries.items (record { entries = length c.args.trail.now.entries.items; visited = c.args.from.now; settled = settled })
    → IsReached c.args.clauses.now c.visit_list.new.watches c.visit_list.new.trail.entries.items (record { entries = length c.visit_list.new.trail.entries.items; visited = c.loop-from.from; settled = settled })
now c settled h =
    let es : List Entry = c.loop-from.trail.entries.items in
    let bound : c.loop-from.from ≤ length es = c.loop-from.invariant.bound in
    reached-grown c.args.clauses.now c.visit_list.new.watches c.args.level es c.visit_list.new.trail.entries.items c.loop-from.from settled c.visit_list.ensures.extends.grows bound
    (c.visit_list.ensures.kept.reached (record { entries = length es; visited = c.loop-from.from; settled = settled }) bound (c.loop-from.invariant.now settled h))

bound_at : (c : After-visit_list) → c.loop-from.from ≤ length c.visit_list.new.trail.entries.items
bound_at c =
    let longer = grows-longer c.args.level c.loop-from.trail.entries.items c.visit_list.new.trail.entries.items c.visit_list.ensures.extends.grows in
    let bound = c.loop-from.invariant.bound in
    omega arith

pub loop-from-init : goal.loop-from-init
loop-from-init c = record {
  trail = extends-none c.args.clauses.now c.args.level c.args.trail.now c.requires.trail;
  watches = keeps-lists c.args.clauses.now c.args.watches.now c.args.watches.now c.args.trail.now.entries.items c.requires.watched refl refl;
  bound = c.requires.bound;
  now = λ settled h. h;
}

pub negated-literal-requires : goal.negated-literal-requires
negated-literal-requires c = let ok = c.loop-from.trail.entries.ok.0 in omega arith

pub visit_list-requires-clause-trail : goal.visit_list-requires-clause-trail
visit_list-requires-clause-trail c = c.loop-from.invariant.trail.trail

pub visit_list-requires-clause-watched : goal.visit_list-requires-clause-watched
visit_list-requires-clause-watched c = c.loop-from.invariant.watches.watched

pub loop-from-smaller : goal.loop-from-smaller
loop-from-smaller c =
    let here : c.loop-from.from < length c.loop-from.trail.entries.items = less (goal.at.loop-from-smaller c).After-negated-literal in
    let most : length c.loop-from.trail.entries.items ≤ length c.loop-from.trail.positions.items = placed-most c.loop-from.trail.entries.items c.loop-from.trail.positions.items c.loop-from.trail.placed in
    let same : length c.visit_list.new.trail.positions.items ≡ length c.loop-from.trail.positions.items = c.visit_list.ensures.extends.positions in
    omega arith

pub loop-from-preserved : goal.loop-from-preserved
loop-from-preserved c =
    let at = (goal.at.loop-from-preserved c).After-visit_list in
    let known = c.args.clauses.now in
    let es : List Entry = c.loop-from.trail.entries.items in
    let es' : List Entry = c.visit_list.new.trail.entries.items in
    let before = (goal.at.loop-from-preserved c).After-negated-literal in
    let here : c.loop-from.from < length es = less before in
    let longer : length es ≤ length es' = grows-longer c.args.level es es' c.visit_list.ensures.extends.grows in
    let none : c.in_ok-found.found ≡ None = none_from_not_some c.in_ok-found.found (sym c.is_some.ensures ∙ c.if-is_some.false) in
    let l : ℤ = to_z w64 (of_z w64 c.negated-literal.result) in
    let all = subst (λ (o : Option ℕ). MatchOption o (AreVisited known c.visit_list.new.watches es' l) (IsFalseAt known es')) none c.in_ok-found.ensures.found in
    record {
      trail = extends at;
      watches = kept at;
      bound = omega arith;
      now = λ settled h. reached-next known c.visit_list.new.watches es' c.loop-from.from settled l
          (read before ∙ ap (λ (x : Entry). neg_ℤ x.literal) (sym (entry-grown c.args.level es es' c.loop-from.from c.visit_list.ensures.extends.grows here))) all (now at settled h);
    }

-- ---- what the visits keep
pub returns-in_err-found-clause-extends : goal.returns-in_err-found-clause-extends
returns-in_err-found-clause-extends c = extends (goal.at.returns-in_err-found-clause-extends c).After-visit_list

pub returns-then-is_some-clause-extends : goal.returns-then-is_some-clause-extends
returns-then-is_some-clause-extends c = extends (goal.at.returns-then-is_some-clause-extends c).After-visit_list

pub returns-clause-extends : goal.returns-clause-extends
returns-clause-extends c = c.loop-from.invariant.trail

pub returns-in_err-found-clause-kept : goal.returns-in_err-found-clause-kept
returns-in_err-found-clause-kept c = kept (goal.at.returns-in_err-found-clause-kept c).After-visit_list

pub returns-then-is_some-clause-kept : goal.returns-then-is_some-clause-kept
returns-then-is_some-clause-kept c = kept (goal.at.returns-then-is_some-clause-kept c).After-visit_list

pub returns-clause-kept : goal.returns-clause-kept
returns-clause-kept c = c.loop-from.invariant.watches

pub returns-in_err-found-clause-bound : goal.returns-in_err-found-clause-bound
returns-in_err-found-clause-bound c = bound_at (goal.at.returns-in_err-found-clause-bound c).After-visit_list

pub returns-then-is_some-clause-bound : goal.returns-then-is_some-clause-bound
returns-then-is_some-clause-bound c = bound_at (goal.at.returns-then-is_some-clause-bound c).After-visit_list

pub returns-clause-bound : goal.returns-clause-bound
returns-clause-bound c = c.loop-from.invariant.bound

pub returns-in_err-found-clause-now : goal.returns-in_err-found-clause-now
returns-in_err-found-clause-now c = now (goal.at.returns-in_err-found-clause-now c).After-visit_list

pub returns-then-is_some-clause-now : goal.returns-then-is_some-clause-now
returns-then-is_some-clause-now c = now (goal.at.returns-then-is_some-clause-now c).After-visit_list
