use Rattle.std.proofs.Common.{◌≡◌, ◌&&◌, ◌∙◌, subst}
use Rattle.mcs_spelling.specs.Lines.{is_empty}
use Rattle.mcs_proof_lines.specs.Walks.{At}
use Rattle.mcs_proof_lines.proofs.LineLemmas.{at_end}
use Rattle.mcs_proof_lines.proofs.lines.Lines.is_at_end.Goals as goal

pub returns : goal.returns
returns c =
    subst (λ (at : At). c.is_empty.result ≡ (is_empty at.rest && is_empty at.tail)) c.self.view_is
    (c.is_empty.ensures ∙ at_end c.self.inside.left.now)
