use Rattle.std.proofs.Common.{◌≡◌, ℕ, ◌<◌, [], ◌∷◌, ◌++◌, length, codes, Some, sym, ap, ◌∙◌, subst}
use Rattle.mcs_proof_lines.specs.Walks.{At, line_at, atoms_of_line}
use Rattle.mcs_proof_lines.proofs.WalkLemmas.{fewer_lines}
use Rattle.mcs_proof_lines.proofs.ProgramLemmas.{smaller_pushed}
use Rattle.mcs_judging.proofs.programs.take_smaller.Goals as goal

pub loop-set-smaller : goal.loop-set-smaller
loop-set-smaller c =
    let texts = c.args.texts.now in
    let e : line_at (atoms_of_line (codes "smaller ") texts) c.loop-set.lines ≡ Some c.in-Some.set = sym c.in-Some.ensures in
    subst (λ (at : At). length at.rest < length c.loop-set.lines.rest) (sym c.advance.ensures) (fewer_lines (atoms_of_line (codes "smaller ") texts) c.loop-set.lines c.in-Some.set e)

pub loop-set-preserved : goal.loop-set-preserved
loop-set-preserved c =
    let texts = c.args.texts.now in
    let e : line_at (atoms_of_line (codes "smaller ") texts) c.loop-set.lines ≡ Some c.in-Some.set = sym c.in-Some.ensures in
    smaller_pushed texts c.loop-set.sets.items c.push.new.self.items c.in-Some.set c.loop-set.lines c.advance.new.self _ (c.in_ok-push.ensures.items ∙ ap (λ (s : ℕ). c.loop-set.sets.items ++ s ∷ []) c.numbered.ensures) c.advance.ensures e c.loop-set.invariant
