use Rattle.std.proofs.Common.{◌≡◌, ◌<◌, ◌⊎◌, ◌∙◌, ℤ, List, length, subst, sym, arith}
use Rattle.mcs_base.specs.Listings.{IsAmong, IsListing}
use Rattle.mcs_trace.specs.Clauses.{IsLiteral, LiteralBefore}
use Rattle.mcs_trace.proofs.OrderLemmas.{read_literal}
use Rattle.mcs_engine.specs.declared.trail.Entry.{Entry}
use Rattle.mcs_engine.specs.Trails.{literal_at}
use Rattle.mcs_engine.proofs.GrowLemmas.{neg_literal}
use Rattle.mcs_engine.proofs.MarkLemmas.{of_marks-free, of_marks-more, unmarked-is}
use Rattle.mcs_engine.proofs.marks.clause_of.Goals as goal

pub loop-place-preserved-then-not-marks-place : goal.loop-place-preserved-then-not-marks-place
loop-place-preserved-then-not-marks-place c =
    of_marks-free c.args.trail.now.entries.items c.args.marks.now c.loop-place.place c.loop-place.clause (unmarked-is c.args.marks.now c.loop-place.place c.if-not-marks-place.true) c.loop-place.invariant

pub loop-place-preserved : goal.loop-place-preserved
loop-place-preserved c =
    let es : List Entry = c.args.trail.now.entries.items in
    let l : ℤ = c.negated.result in
    let less : c.loop-place.place < length es = (let sized = c.requires in omega arith) in
    let is : IsLiteral l = subst IsLiteral (sym c.negated.ensures) (neg_literal (literal_at es c.loop-place.place) (c.args.trail.now.placed c.loop-place.place less).0) in
    of_marks-more es c.args.marks.now c.loop-place.place c.loop-place.clause c.insert.new.self c.if-not-marks-place.false c.loop-place.invariant
    (subst (λ (x : ℤ). IsListing (λ (k : ℤ). (k ≡ x) ⊎ IsAmong k c.loop-place.clause) LiteralBefore c.insert.new.self) (read_literal l is ∙ c.negated.ensures) c.in_ok-insert.ensures.ok)
