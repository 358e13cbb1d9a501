use Rattle.std.proofs.Common.{◌≡◌, take, Some, None, sym, ◌∙◌, subst}
use Rattle.mcs_proof_lines.specs.Walks.{At, next_line}
use Rattle.mcs_proof_lines.proofs.LineLemmas.{next_is, none_next}
use Rattle.mcs_proof_lines.proofs.lines.Lines.current.Goals as goal

pub returns-in-Some : goal.returns-in-Some
returns-in-Some c =
    subst (λ (at : At). Some (take c.in-Some.feed c.self.inside.left.now) ≡ next_line at) c.self.view_is
    (sym (next_is c.self.inside.left.now c.in-Some.feed (sym c.in-Some.is ∙ c.self.invariant.1)))

pub returns-in-None : goal.returns-in-None
returns-in-None c = subst (λ (at : At). None ≡ next_line at) c.self.view_is (sym (none_next c.self.inside.left.now (sym c.in-None.is ∙ c.self.invariant.1)))
