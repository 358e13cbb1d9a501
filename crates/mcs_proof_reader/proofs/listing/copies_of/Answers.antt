use Rattle.std.proofs.Common.{◌≡◌, ℕ, ◌<◌, List, length, Some, sym, ap, subst}
use Rattle.std.specs.Option.{option_and_then}
use Rattle.mcs_proof_lines.specs.Walks.{At, line_at}
use Rattle.mcs_proof_lines.proofs.WalkLemmas.{fewer_lines}
use Rattle.mcs_proof_reader.proofs.StepLemmas.{line_copied}
use Rattle.mcs_proof_reader.proofs.listing.copies_of.Goals as goal

pub loop-line-smaller : goal.loop-line-smaller
loop-line-smaller c =
    let e : line_at (λ (l : List ℕ). Some l) c.loop-line.lines ≡ Some c.in-Some.line.now = ap (option_and_then (λ (l : List ℕ). Some l)) (sym c.in-Some.ensures) in
    subst (λ (at : At). length at.rest < length c.loop-line.lines.rest) (sym c.advance.ensures) (fewer_lines (λ (l : List ℕ). Some l) c.loop-line.lines c.in-Some.line.now e)

pub loop-line-preserved : goal.loop-line-preserved
loop-line-preserved c =
    line_copied (λ l. l.items) c.loop-line.copies.items c.push.new.self.items c.in_ok-copy_of.field-0 c.in-Some.line.now c.loop-line.lines c.advance.new.self _ c.in_ok-push.ensures.items c.in_ok-copy_of.ensures c.advance.ensures (sym c.in-Some.ensures) c.loop-line.invariant
