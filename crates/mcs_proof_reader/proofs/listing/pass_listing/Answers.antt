use Rattle.std.proofs.Common.{◌≡◌, ℕ, ◌<◌, List, [], ◌∷◌, ◌++◌, length, Some, sym, ap, subst}
use Rattle.std.specs.Option.{option_and_then}
use Rattle.mcs_proof_lines.specs.Walks.{At, line_at}
use Rattle.mcs_proof_lines.proofs.WalkLemmas.{fewer_lines}
use Rattle.mcs_proof_reader.proofs.StepLemmas.{listing_pushed, listing_ended}
use Rattle.mcs_proof_reader.proofs.listing.pass_listing.Goals as goal

pub loop-line-smaller : goal.loop-line-smaller
loop-line-smaller c =
    let e : line_at (λ (l : List ℕ). Some l) c.loop-line.lines ≡ Some c.in-Some.line.now = ap (option_and_then (λ (l : List ℕ). Some l)) (sym c.in-Some.ensures) in
    subst (λ (at : At). length at.rest < length c.loop-line.lines.rest) (sym c.advance.ensures) (fewer_lines (λ (l : List ℕ). Some l) c.loop-line.lines c.in-Some.line.now e)

pub loop-line-preserved : goal.loop-line-preserved
loop-line-preserved c =
    let front = c.loop-line.invariant.0 in
    (front ++ c.in-Some.line.now ∷ [], listing_pushed front c.in-Some.line.now c.loop-line.lines c.advance.new.self _ c.advance.ensures (sym c.in-Some.ensures) c.loop-line.invariant.1 (sym c.if-ends_listing.ensures))

pub returns-then-ends_listing : goal.returns-then-ends_listing
returns-then-ends_listing c =
    let front = c.loop-line.invariant.0 in
    (front ++ c.in-Some.line.now ∷ [], listing_ended front c.in-Some.line.now c.loop-line.lines c.advance.new.self _ c.advance.ensures (sym c.in-Some.ensures) c.loop-line.invariant.1 (sym c.if-ends_listing.ensures))
