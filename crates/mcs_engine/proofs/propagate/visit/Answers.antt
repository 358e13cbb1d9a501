use Rattle.std.proofs.Common.{◌≡◌, ◌≢◌, ap, true≢false, ℤ, List, ◌+◌, ◌<◌, inl, inr, length, neg_ℤ, slice_get, Some, refl, sym, ◌∙◌, subst, arith, w64, to_z, of_z, to_z-of_z}
use Rattle.std.proofs.lemmas.List.{length-set}
use Rattle.mcs_base.specs.Listings.{IsAmong}
use Rattle.mcs_trace.specs.Clauses.{IsLiteral, place}
use Rattle.mcs_trace.proofs.OrderLemmas.{place-injective, read_literal}
use Rattle.mcs_engine.specs.declared.trail.Entry.{Entry}
use Rattle.mcs_engine.specs.declared.watches.Pair.{Pair}
use Rattle.mcs_engine.specs.declared.watches.Watches.{Watches}
use Rattle.mcs_engine.specs.Lists.{IsInList}
use Rattle.mcs_engine.specs.Pairs.{no_pair}
use Rattle.mcs_engine.specs.Trails.{IsLiteralOver, IsOn}
use Rattle.mcs_engine.specs.Watching.{ArePair, AreSpared, AreWatched, IsOf, IsPairOf}
use Rattle.mcs_engine.proofs.FindingLemmas.{value-or-free}
use Rattle.mcs_engine.proofs.GrowLemmas.{on-pushed, over_at, over_of}
use Rattle.mcs_engine.proofs.Keeping.{extends-none, extends-push, extends-same, keeps-lists}
use Rattle.mcs_engine.proofs.TrailLemmas.{off-literal, on_below}
use Rattle.mcs_engine.proofs.WatchLemmas.{IsWatching, gone-move, moved-move, no-pair, reached-list, reached-move, spared-move, watched-list, watched-move, watched_at, watching}
use Rattle.mcs_engine.proofs.propagate.visit.Goals.{In-Some, In-Some-open_literal, After-add}
use Rattle.mcs_engine.proofs.propagate.visit.Goals as goal

-- ---- the pair of the clause
pair : (c : In-Some) → slice_get c.args.watches.now.pairs c.args.index ≡ Some c.get.result
pair c = c.get.ensures

watches : (c : In-Some) (d : List ℤ) → slice_get c.args.clauses.now c.args.index ≡ Some d → IsWatching c.args.clauses.now c.args.watches.now c.args.index d c.args.literal c.in-Some.other
watches c d is =
    let literal : IsLiteral c.args.literal = off-literal c.args.trail.now.entries.items c.args.trail.now.positions.items c.args.literal c.args.trail.now.placed c.requires.off in
    watching c.args.clauses.now c.args.watches.now c.args.index d c.get.result c.args.literal c.in-Some.other c.requires.watched literal is (pair c)
    (subst (λ (l : ℤ). IsPairOf c.get.result l c.in-Some.other) (to_z-of_z c.ranges.literal) c.in-Some.ensures)

other_of : (c : In-Some) → IsLiteralOver c.args.trail.now.positions.items c.in-Some.other
other_of c =
    let within : c.args.index < length c.args.watches.now.pairs = (let past = c.if-index-len.false in omega (arith, c.len.ensures)) in
    let (d, is) = watched_at c.args.clauses.now c.args.watches.now c.args.index c.requires.watched within in
    over_of c.args.clauses.now c.args.trail.now c.args.index d c.in-Some.other c.requires.trail is (watches c d is).has_other

other : (c : In-Some) → to_z w64 (of_z w64 c.in-Some.other) ≡ c.in-Some.other
other c = read_literal c.in-Some.other (other_of c).0

other_over : (c : In-Some) → IsLiteralOver c.args.trail.now.positions.items (to_z w64 (of_z w64 c.in-Some.other))
other_over c = subst (IsLiteralOver c.args.trail.now.positions.items) (sym (other c)) (other_of c)

pub is_true-requires : goal.is_true-requires
is_true-requires c = other_over c

pub returns-then-is_true-clause-seen : goal.returns-then-is_true-clause-seen
returns-then-is_true-clause-seen c = λ d is. let at = (goal.at.returns-then-is_true-clause-seen c).In-Some in
    (c.in-Some.other, (watches at d is).has_other, subst (λ (l : ℤ). IsOn c.args.trail.now.entries.items l) (other at) (c.is_true.ensures.0 c.if-is_true.true))

pub open_literal-requires : goal.open_literal-requires
open_literal-requires c = over_at c.args.clauses.now c.args.trail.now c.args.index c.row.result.now c.requires.trail c.row.ensures

-- ---- another literal is watched
open_of : (c : In-Some-open_literal) → IsLiteral c.in-Some-open_literal.open
open_of c = (over_of c.args.clauses.now c.args.trail.now c.args.index c.row.result.now c.in-Some-open_literal.open c.requires.trail c.row.ensures c.in-Some-open_literal.ensures.0).0

open_read : (c : In-Some-open_literal) → to_z w64 (of_z w64 c.in-Some-open_literal.open) ≡ c.in-Some-open_literal.open
open_read c = read_literal c.in-Some-open_literal.open (open_of c)

abbrev between : After-add → Watches
between c = record { pairs = c.args.watches.now.pairs; lists = c.add.new.self; short = c.args.watches.now.short }

listed : (c : After-add) → AreWatched c.args.clauses.now (between c)
listed c = watched-list c.args.clauses.now c.args.watches.now (between c) c.requires.watched refl refl c.add.ensures.kept

pub add-requires : goal.add-requires
add-requires c =
    let at = (goal.at.add-requires c).In-Some-open_literal in
    subst IsLiteral (sym (open_read at)) (open_of at)

pub returns-in_err-add-clause-kept : goal.returns-in_err-add-clause-kept
returns-in_err-add-clause-kept c = let at = (goal.at.returns-in_err-add-clause-kept c).After-add in keeps-lists c.args.clauses.now c.args.watches.now (between at) c.args.trail.now.entries.items (listed at) refl refl

pub returns-in-Some-open_literal-clause-kept : goal.returns-in-Some-open_literal-clause-kept
returns-in-Some-open_literal-clause-kept c =
    let at = (goal.at.returns-in-Some-open_literal-clause-kept c).In-Some in
    let at' = (goal.at.returns-in-Some-open_literal-clause-kept c).In-Some-open_literal in
    let after = (goal.at.returns-in-Some-open_literal-clause-kept c).After-add in
    let known = c.args.clauses.now in
    let w : Watches = between after in
    let es : List Entry = c.args.trail.now.entries.items in
    let old : List Pair = c.args.watches.now.pairs in
    let d : List ℤ = c.row.result.now in
    let h = watches at d c.row.ensures in
    let q : Pair = record { first = to_z w64 (of_z w64 c.in-Some.other); second = to_z w64 (of_z w64 c.in-Some-open_literal.open) } in
    let two : ArePair d q = record {
      first = subst (λ (k : ℤ). IsAmong k d) (sym (other at)) h.has_other;
      second = subst (λ (k : ℤ). IsAmong k d) (sym (open_read at')) c.in-Some-open_literal.ensures.0;
      differ = λ e. c.in-Some-open_literal.ensures.1 (sym (e ∙ open_read at'));
    } in
    let before : (l : ℤ) → q.first ≡ l → IsOf l c.get.result = λ l first. subst (λ (k : ℤ). IsOf k c.get.result) (sym (other at) ∙ first) (h.of_other c.get.result (pair at)) in
    let in_list : (l : ℤ) → IsLiteral l → IsOf l q → IsInList w.lists l c.args.index = λ l literal of. elim of [
      | inl first ↦ c.add.ensures.kept.listed l c.args.index (c.requires.watched.listed c.args.index c.get.result l (pair at) literal (before l first))
      | inr second ↦ subst (λ (k : ℤ). IsInList w.lists k c.args.index) second c.in_ok-add.ensures.listed
    ] in
    let open_off : (l : ℤ) → q.second ≡ l → IsOn es (neg_ℤ l) → ⊥ = λ l second off. c.in-Some-open_literal.ensures.2 (subst (λ (k : ℤ). IsOn es (neg_ℤ k)) (sym second ∙ open_read at') off) in
    let some : q ≢ no_pair = λ e. no-pair q.first (other_over at).0 (inl (ap (λ (p : Pair). p.first) (sym e))) in
    record {
      sized = ap length c.set.ensures ∙ length-set old c.args.index q;
      spared = subst (AreSpared old) (sym c.set.ensures) (spared-move old c.args.index q some);
      watched = watched-move known w _ c.args.index d q c.row.ensures c.set.ensures refl (listed after) refl two in_list;
      short = refl;
      moved = λ i p l here of. moved-move old c.args.index c.get.result q es (pair at) (λ k of'. elim of' [ inl first ↦ inl (before k first) | inr second ↦ inr (open_off k second) ]) i p l (subst (λ (ps : List Pair). slice_get ps i ≡ Some p) c.set.ensures here) of;
      reached = λ r bound reached. reached-move known w _ c.args.index d q c.row.ensures c.set.ensures refl es r (reached-list known c.args.watches.now w es r refl refl reached) (λ l literal of below. elim of [
        | inl first ↦ reached.visited c.args.index d c.get.result l c.row.ensures (pair at) literal (before l first) below
        | inr second ↦ absurd (open_off l second (on_below es r.visited (neg_ℤ l) bound below))
      ]);
    }

pub returns-in-Some-open_literal-clause-seen : goal.returns-in-Some-open_literal-clause-seen
returns-in-Some-open_literal-clause-seen c = λ p here.
    let at = (goal.at.returns-in-Some-open_literal-clause-seen c).In-Some in
    let at' = (goal.at.returns-in-Some-open_literal-clause-seen c).In-Some-open_literal in
    let q : Pair = record { first = to_z w64 (of_z w64 c.in-Some.other); second = to_z w64 (of_z w64 c.in-Some-open_literal.open) } in
    gone-move c.args.watches.now.pairs c.args.index q c.args.literal (λ of. elim of [
      | inl first ↦ (watches at c.row.result.now c.row.ensures).differ (sym (other at) ∙ first)
      | inr second ↦ c.in-Some-open_literal.ensures.2 (subst (λ (k : ℤ). IsOn c.args.trail.now.entries.items (neg_ℤ k)) (sym (sym (open_read at') ∙ second)) c.requires.off)
    ]) p (subst (λ (ps : List Pair). slice_get ps c.args.index ≡ Some p) c.set.ensures here)

pub returns-in-Some-open_literal-clause-list : goal.returns-in-Some-open_literal-clause-list
returns-in-Some-open_literal-clause-list c =
    let at' = (goal.at.returns-in-Some-open_literal-clause-list c).In-Some-open_literal in
    c.add.ensures.others (place c.args.literal) (λ e. c.in-Some-open_literal.ensures.2 (subst (λ (k : ℤ). IsOn c.args.trail.now.entries.items (neg_ℤ k)) (place-injective c.args.literal _ e ∙ open_read at') c.requires.off))

pub returns-in_err-add-clause-list : goal.returns-in_err-add-clause-list
returns-in_err-add-clause-list c =
    let at' = (goal.at.returns-in_err-add-clause-list c).In-Some-open_literal in
    c.add.ensures.others (place c.args.literal) (λ e. c.in-Some-open_literal.ensures.2 (subst (λ (k : ℤ). IsOn c.args.trail.now.entries.items (neg_ℤ k)) (place-injective c.args.literal _ e ∙ open_read at') c.requires.off))

-- ---- the other literals are false
pub is_false-requires : goal.is_false-requires
is_false-requires c = other_over (goal.at.is_false-requires c).In-Some

pub returns-then-is_false-clause-seen : goal.returns-then-is_false-clause-seen
returns-then-is_false-clause-seen c = (
  c.row.result.now,
  c.row.ensures,
  λ k among. elim (c.in_default-open_literal.ensures k among) [
    | inl e ↦ subst (λ (l : ℤ). IsOn c.args.trail.now.entries.items (neg_ℤ l)) (sym e) (c.is_false.ensures.0 c.if-is_false.true)
    | inr off ↦ off
  ],
)

-- the other literal is free
pub push-requires : goal.push-requires
push-requires c =
    let over = other_over (goal.at.push-requires c).In-Some in (
      over.0,
      over.1,
      elim (value-or-free c.args.trail.now.entries.items c.args.trail.now.positions.items _ c.args.trail.now.placed) [
        | inl on ↦ absurd (true≢false (sym (c.is_true.ensures.1 on) ∙ c.if-is_true.false))
        | inr (inl off) ↦ absurd (true≢false (sym (c.is_false.ensures.1 off) ∙ c.if-is_false.false))
        | inr (inr free) ↦ free
      ],
    )

pub returns-in_err-push-clause-extends : goal.returns-in_err-push-clause-extends
returns-in_err-push-clause-extends c = extends-same c.args.clauses.now c.args.level c.args.trail.now c.push.new.self c.requires.trail c.push.ensures.positions c.in_err-push.ensures.err

pub returns-clause-extends : goal.returns-clause-extends
returns-clause-extends c =
    let at = (goal.at.returns-clause-extends c).In-Some in
    extends-push c.args.clauses.now c.args.level c.args.trail.now c.push.new.self c.requires.trail c.push.ensures.positions c.args.index c.row.result.now c.in-Some.other _ c.row.ensures
    (watches at c.row.result.now c.row.ensures).has_other
    (λ k among. elim (c.in_default-open_literal.ensures k among) [ inl e ↦ inl (e ∙ other at) | inr off ↦ inr off ])
    (other at) c.in_ok-push.ensures.entries

pub returns-clause-seen : goal.returns-clause-seen
returns-clause-seen c = λ d is.
    let at = (goal.at.returns-clause-seen c).In-Some in
    let x : Entry = record { literal = to_z w64 (of_z w64 c.in-Some.other); reason = c.args.index + 1; level = c.args.level } in
    (x.literal, subst (λ (k : ℤ). IsAmong k d) (sym (other at)) (watches at d is).has_other, on-pushed c.args.trail.now.entries.items c.push.new.self.entries.items x c.in_ok-push.ensures.entries)

-- ---- what stays as it is
pub returns-then-index-len-clause-extends : goal.returns-then-index-len-clause-extends
returns-then-index-len-clause-extends c = extends-none c.args.clauses.now c.args.level c.args.trail.now c.requires.trail

pub returns-in_default-clause-extends : goal.returns-in_default-clause-extends
returns-in_default-clause-extends c = extends-none c.args.clauses.now c.args.level c.args.trail.now c.requires.trail

pub returns-then-is_true-clause-extends : goal.returns-then-is_true-clause-extends
returns-then-is_true-clause-extends c = extends-none c.args.clauses.now c.args.level c.args.trail.now c.requires.trail

pub returns-then-is_false-clause-extends : goal.returns-then-is_false-clause-extends
returns-then-is_false-clause-extends c = extends-none c.args.clauses.now c.args.level c.args.trail.now c.requires.trail

pub returns-in_err-add-clause-extends : goal.returns-in_err-add-clause-extends
returns-in_err-add-clause-extends c = extends-none c.args.clauses.now c.args.level c.args.trail.now c.requires.trail

pub returns-in-Some-open_literal-clause-extends : goal.returns-in-Some-open_literal-clause-extends
returns-in-Some-open_literal-clause-extends c = extends-none c.args.clauses.now c.args.level c.args.trail.now c.requires.trail

pub returns-then-index-len-clause-kept : goal.returns-then-index-len-clause-kept
returns-then-index-len-clause-kept c = keeps-lists c.args.clauses.now c.args.watches.now c.args.watches.now c.args.trail.now.entries.items c.requires.watched refl refl

pub returns-in_default-clause-kept : goal.returns-in_default-clause-kept
returns-in_default-clause-kept c = keeps-lists c.args.clauses.now c.args.watches.now c.args.watches.now c.args.trail.now.entries.items c.requires.watched refl refl

pub returns-then-is_true-clause-kept : goal.returns-then-is_true-clause-kept
returns-then-is_true-clause-kept c = keeps-lists c.args.clauses.now c.args.watches.now c.args.watches.now c.args.trail.now.entries.items c.requires.watched refl refl

pub returns-then-is_false-clause-kept : goal.returns-then-is_false-clause-kept
returns-then-is_false-clause-kept c = keeps-lists c.args.clauses.now c.args.watches.now c.args.watches.now c.args.trail.now.entries.items c.requires.watched refl refl

pub returns-in_err-push-clause-kept : goal.returns-in_err-push-clause-kept
returns-in_err-push-clause-kept c = keeps-lists c.args.clauses.now c.args.watches.now c.args.watches.now c.args.trail.now.entries.items c.requires.watched refl refl

pub returns-clause-kept : goal.returns-clause-kept
returns-clause-kept c = keeps-lists c.args.clauses.now c.args.watches.now c.args.watches.now c.args.trail.now.entries.items c.requires.watched refl refl

pub returns-then-index-len-clause-list : goal.returns-then-index-len-clause-list
returns-then-index-len-clause-list c = refl

pub returns-in_default-clause-list : goal.returns-in_default-clause-list
returns-in_default-clause-list c = refl

pub returns-then-is_true-clause-list : goal.returns-then-is_true-clause-list
returns-then-is_true-clause-list c = refl

pub returns-then-is_false-clause-list : goal.returns-then-is_false-clause-list
returns-then-is_false-clause-list c = refl

pub returns-in_err-push-clause-list : goal.returns-in_err-push-clause-list
returns-in_err-push-clause-list c = refl

pub returns-clause-list : goal.returns-clause-list
returns-clause-list c = refl
