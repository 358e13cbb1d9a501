use Rattle.std.proofs.Common.{◌≡◌, ◌∙◌, sym, inl, inr, w64, to_z, of_z, to_z-of_z}
use Rattle.std.proofs.lemmas.Bool.{iff_false}
use Rattle.mcs_trace.proofs.OrderLemmas.{at_next}
use Rattle.mcs_trace.proofs.resolvent.is_next.Goals as goal

pub returns-else-is_at : goal.returns-else-is_at
returns-else-is_at c =
    let read : to_z w64 (of_z w64 c.args.literal) ≡ c.args.literal = to_z-of_z c.ranges.literal in
    let next = at_next c.args.literal c.args.lits.now c.args.start c.requires.clause.1 c.requires.start c.requires.large in (
      λ e. let (here, is) = c.is_at-else-is_at.ensures.0 e in next.0 (inr (here, is ∙ read)),
      λ among. elim (next.1 among) [
        | inl (here, is) ↦ absurd (iff_false c.is_at.ensures c.if-is_at.false (here, is ∙ sym read))
        | inr (here, is) ↦ c.is_at-else-is_at.ensures.1 (here, is ∙ sym read)
      ],
    )
