use Rattle.std.proofs.Common.{◌≡◌, ◌<◌, ◌∙◌, ℕ, ℤ, List, [], ◌∷◌, Bool, false, Some, length, set, ap, sym, subst}
use Rattle.mcs_trace.specs.Traces.{numbered_clause}
use Rattle.mcs_engine.specs.declared.trail.Entry.{Entry}
use Rattle.mcs_engine.specs.Marking.{IsMarkedChain, IsMetAt, IsVariableMarked, MarksAlso}
use Rattle.mcs_engine.specs.Trails.{IsReason}
use Rattle.mcs_engine.proofs.GrowLemmas.{over_at}
use Rattle.mcs_engine.proofs.KnownLemmas.{numbered-is, numbered-row}
use Rattle.mcs_engine.proofs.MarkLemmas.{marked-resolved, marked-within, marks-taken_off}
use Rattle.mcs_engine.proofs.TrailLemmas.{reason-read, reason_of}
use Rattle.mcs_engine.proofs.marks.resolve_at.Goals as goal
use Rattle.mcs_engine.proofs.marks.resolve_at.Goals.{After-marks-1}

-- a place that is marked is one of the trail
marked_place : (known : List (List ℤ)) (es : List Entry) (chain : List ℕ) (marks : List Bool) (p : ℕ) → IsMarkedChain known es chain marks → IsVariableMarked marks p → p < length es
marked_place known es chain marks p m here = subst (λ (n : ℕ). p < n) m.marking.sized (marked-within marks p here)

pub row-requires : goal.row-requires
row-requires c =
    let known : List (List ℤ) = c.args.clauses.now in
    let es : List Entry = c.args.trail.now.entries.items in
    let less = marked_place known es c.args.chain.now.items c.args.marks.now.items c.args.place c.requires.marked c.requires.here in
    let (reason, e, is) = reason_of known es c.args.place c.requires.trail.explained less c.requires.implied in
    (numbered-row known c.index.result.now.reason reason (ap (numbered_clause known) (reason-read es c.args.place c.index.result.now less c.index.ensures) ∙ e)).1

pub mark_all-requires-clause-clause : goal.mark_all-requires-clause-clause
mark_all-requires-clause-clause c = over_at c.args.clauses.now c.args.trail.now _ c.row.result.now c.requires.trail c.row.ensures

within : (c : After-marks-1) → c.args.place < length c.args.trail.now.entries.items
within c = marked_place c.args.clauses.now c.args.trail.now.entries.items c.args.chain.now.items c.args.marks.now.items c.args.place c.requires.marked c.requires.here

-- the reason, and what its marks are
reason_at_place : (c : After-marks-1) → (reason : List ℤ) × (numbered_clause c.args.clauses.now c.index.result.now.reason ≡ Some reason) × IsReason c.args.trail.now.entries.items c.args.place reason × (reason ≡ c.row.result.now)
reason_at_place c =
    let known : List (List ℤ) = c.args.clauses.now in
    let es : List Entry = c.args.trail.now.entries.items in
    let number : ℕ = c.index.result.now.reason in
    let (reason, e, is) = reason_of known es c.args.place c.requires.trail.explained (within c) c.requires.implied in
    let at : numbered_clause known number ≡ Some reason = ap (numbered_clause known) (reason-read es c.args.place c.index.result.now (within c) c.index.ensures) ∙ e in
    (reason, at, is, numbered-is known number reason c.row.result.now at c.row.ensures)

also_at : (c : After-marks-1) (reason : List ℤ) → reason ≡ c.row.result.now → MarksAlso c.args.trail.now.entries.items (IsMetAt c.args.trail.now.entries.items reason) c.args.marks.now.items c.mark_all.new.marks.items
also_at c reason same = subst (λ (x : List ℤ). MarksAlso c.args.trail.now.entries.items (IsMetAt c.args.trail.now.entries.items x) c.args.marks.now.items c.mark_all.new.marks.items) (sym same) c.mark_all.ensures

pub returns-clause-resolved : goal.returns-clause-resolved
returns-clause-resolved c =
    let known : List (List ℤ) = c.args.clauses.now in
    let es : List Entry = c.args.trail.now.entries.items in
    let all : List Bool = c.mark_all.new.marks.items in
    let (reason, at, is, same) = reason_at_place c in
    record {
      marked = subst (λ (ns : List ℕ). IsMarkedChain known es ns (set all c.args.place false)) (sym c.in_ok-push.ensures.items)
          (marked-resolved known es c.args.trail.now.positions.items c.args.chain.now.items c.args.marks.now.items all c.args.place c.index.result.now.reason reason c.requires.trail.clauses c.args.trail.now.placed (within c) at is c.requires.here c.requires.marked (also_at c reason same));
      reasons = record { more = c.index.result.now.reason ∷ []; is = c.in_ok-push.ensures.items; reasons = ((c.args.place, within c, (reason, at, is)), tt) };
    }

pub returns-clause-off : goal.returns-clause-off
returns-clause-off c =
    let (reason, at, is, same) = reason_at_place c in
    marks-taken_off c.args.trail.now.entries.items c.args.trail.now.positions.items c.args.marks.now.items c.mark_all.new.marks.items c.args.place reason c.args.trail.now.placed (within c) is c.requires.marked.marking.sized (also_at c reason same)
