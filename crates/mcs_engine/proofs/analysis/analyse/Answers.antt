use Rattle.std.proofs.lemmas.Option.{slice_get_within}
use Rattle.std.proofs.Common.{◌≡◌, ◌+◌, ◌++◌, ◌∷◌, [], ◌∙◌, Bool, false, List, ℕ, suc, ℤ, Some, length, replicate, ap, subst, sym, arith}
use Rattle.mcs_base.specs.Listings.{IsListing}
use Rattle.mcs_base.proofs.Each.{all_get}
use Rattle.mcs_trace.specs.Clauses.{IsClause, LiteralBefore}
use Rattle.mcs_trace.specs.Traces.{IsChainResolvent, numbered_clause}
use Rattle.mcs_engine.specs.declared.trail.Entry.{Entry}
use Rattle.mcs_engine.specs.Learning.{GoesOnByReasons, IsSingle}
use Rattle.mcs_engine.specs.Marking.{IsVariableMarked, IsMarking, IsOfMarks}
use Rattle.mcs_engine.specs.Trails.{IsFalse, AreCovered}
use Rattle.mcs_engine.proofs.KnownLemmas.{chain-start}
use Rattle.mcs_engine.proofs.MarkLemmas.{free-empty, late-marked, marked-start, none-marked, same-clause, single-marked}
use Rattle.mcs_engine.proofs.ReasonLemmas.{reasons-more}
use Rattle.mcs_engine.proofs.analysis.analyse.Goals as goal
use Rattle.mcs_engine.proofs.analysis.analyse.Goals.{After-marks-3-1, After-drop-marks-2}

-- the first marks are those of the clause
marking_at : (c : After-marks-3-1) → IsMarking c.args.trail.now.entries.items c.mark_all.new.marks.items c.row.result.now
marking_at c =
    let known : List (List ℤ) = c.args.clauses.now in
    let es : List Entry = c.args.trail.now.entries.items in
    let row : List ℤ = c.row.result.now in
    let none : c.in_ok-marks.marks.items ≡ replicate c.len.result false = c.in_ok-marks.ensures.items_if_clones_equal (λ y e. e) in
    let sized : length c.in_ok-marks.marks.items ≡ length es = (let ok = c.args.trail.now.entries.ok.0 in let ok' = c.in_ok-marks.marks.ok.0 in omega (arith, c.in_ok-marks.ensures.len, c.len.ensures)) in
    let (d, at, off) = c.requires.conflict in
    let both : Some d ≡ Some row = sym at ∙ c.row.ensures in
    let same : d ≡ row = cc in
    marked-start es c.args.trail.now.positions.items row c.in_ok-marks.marks.items c.mark_all.new.marks.items c.args.trail.now.placed (all_get IsClause known c.args.index row c.requires.trail.clauses c.row.ensures)
    (subst (IsFalse es) same off) sized (λ q. subst (λ (xs : List Bool). ¬ IsVariableMarked xs q) (sym none) (none-marked c.len.result q)) c.mark_all.ensures

pub resolve_back-requires-clause-marked : goal.resolve_back-requires-clause-marked
resolve_back-requires-clause-marked c =
    let known : List (List ℤ) = c.args.clauses.now in
    let row : List ℤ = c.row.result.now in
    let n : ℕ = c.args.index + 1 in
    let number : n ≡ suc c.args.index = omega arith in
    let chain : c.push.new.self.items ≡ n ∷ [] = c.in_ok-push.ensures.items ∙ ap (λ (x : List ℕ). x ++ n ∷ []) c.new-chain.ensures.items in
    record { clause = row; right = subst (λ (ns : List ℕ). IsChainResolvent known ns row) (sym chain) (chain-start known n row (ap (numbered_clause known) number ∙ c.row.ensures)); marking = marking_at c }

pub resolve_back-requires-clause-late : goal.resolve_back-requires-clause-late
resolve_back-requires-clause-late c = late-marked c.args.trail.now.entries.items c.mark_all.new.marks.items c.row.result.now c.args.start (marking_at c) (c.requires.late c.row.result.now c.row.ensures)

-- the clause that is learnt is that of the marks
same_at : (c : After-drop-marks-2) → c.in_ok-shorten.ensures.resolved.marked.clause ≡ c.in_ok-clause.clause
same_at c =
    let es : List Entry = c.args.trail.now.entries.items in
    let marks : List Bool = c.shorten.new.marks.items in
    let m = c.in_ok-shorten.ensures.resolved.marked in
    let listing : IsListing (IsOfMarks es marks (length marks)) LiteralBefore c.in_ok-clause.clause = subst (λ (xs : List Bool). IsListing (IsOfMarks es xs (length xs)) LiteralBefore c.in_ok-clause.clause) c.deref.ensures.value c.in_ok-clause.ensures in
    same-clause es marks m.clause c.in_ok-clause.clause m.marking listing

pub returns-clause-learnt : goal.returns-clause-learnt
returns-clause-learnt c =
    let m = c.in_ok-shorten.ensures.resolved.marked in
    record {
      chain = subst (IsChainResolvent c.args.clauses.now c.shorten.new.chain.items) (same_at c) m.right;
      all_false = subst (IsFalse c.args.trail.now.entries.items) (same_at c) m.marking.all_false;
    }

pub returns-clause-chain : goal.returns-clause-chain
returns-clause-chain c =
    let known : List (List ℤ) = c.args.clauses.now in
    let es : List Entry = c.args.trail.now.entries.items in
    let n : ℕ = c.args.index + 1 in
    let chain : c.push.new.self.items ≡ n ∷ [] = c.in_ok-push.ensures.items ∙ ap (λ (x : List ℕ). x ++ n ∷ []) c.new-chain.ensures.items in
    subst (λ (ns : List ℕ). GoesOnByReasons known es ns c.shorten.new.chain.items) chain
    (reasons-more known es c.push.new.self.items c.resolve_back.new.chain.items c.shorten.new.chain.items c.in_ok-resolve_back.ensures.resolved.reasons c.in_ok-shorten.ensures.resolved.reasons)

pub returns-clause-single : goal.returns-clause-single
returns-clause-single c = λ some.
    let es : List Entry = c.args.trail.now.entries.items in
    let m = c.in_ok-shorten.ensures.resolved.marked in
    subst (IsSingle es c.args.start) (same_at c) (single-marked es c.args.trail.now.positions.items c.shorten.new.marks.items m.clause c.args.start c.args.trail.now.placed m.marking (c.in_ok-shorten.ensures.single some))

pub returns-clause-empty : goal.returns-clause-empty
returns-clause-empty c = λ past.
    let m = c.in_ok-shorten.ensures.resolved.marked in
    sym (same_at c) ∙ free-empty c.args.trail.now.entries.items c.shorten.new.marks.items m.clause m.marking (c.in_ok-shorten.ensures.past past)

pub row-requires : goal.row-requires
row-requires c =
    let (d, at, off) = c.requires.conflict in
    slice_get_within c.args.clauses.now c.args.index d at

pub mark_all-requires-clause-clause : goal.mark_all-requires-clause-clause
mark_all-requires-clause-clause c =
    let known : List (List ℤ) = c.args.clauses.now in
    let row : List ℤ = c.row.result.now in
    (all_get IsClause known c.args.index row c.requires.trail.clauses c.row.ensures, all_get (AreCovered c.args.trail.now.positions.items) known c.args.index row c.requires.trail.covered c.row.ensures)

pub mark_all-requires-clause-sized : goal.mark_all-requires-clause-sized
mark_all-requires-clause-sized c =
    let ok = c.args.trail.now.entries.ok.0 in
    let ok' = c.in_ok-marks.marks.ok.0 in
    omega (arith, c.in_ok-marks.ensures.len, c.len.ensures, ok, ok')

pub prove-unreachable-requires : goal.prove-unreachable-requires
prove-unreachable-requires c =
    let (d, at, off) = c.requires.conflict in
    let within = slice_get_within c.args.clauses.now c.args.index d at in
    omega (arith, within, c.len-2.ensures, c.if-prove.true)

pub resolve_back-requires-clause-trail : goal.resolve_back-requires-clause-trail
resolve_back-requires-clause-trail c = c.requires.trail

pub resolve_back-requires-clause-implied : goal.resolve_back-requires-clause-implied
resolve_back-requires-clause-implied c = c.requires.implied

pub shorten-requires-clause-trail : goal.shorten-requires-clause-trail
shorten-requires-clause-trail c = c.requires.trail

pub shorten-requires-clause-marked : goal.shorten-requires-clause-marked
shorten-requires-clause-marked c = c.in_ok-resolve_back.ensures.resolved.marked

pub shorten-requires-clause-single : goal.shorten-requires-clause-single
shorten-requires-clause-single c = c.in_ok-resolve_back.ensures.single

pub shorten-requires-clause-implied : goal.shorten-requires-clause-implied
shorten-requires-clause-implied c = c.requires.implied

pub clause_of-requires : goal.clause_of-requires
clause_of-requires c = ap length c.deref.ensures.value ∙ c.in_ok-shorten.ensures.resolved.marked.marking.sized
