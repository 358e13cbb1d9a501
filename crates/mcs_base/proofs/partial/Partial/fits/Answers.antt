use Rattle.std.proofs.Common.{sym, ◌∙◌}
use Rattle.std.proofs.lemmas.Bool.Decides.{Decides-eqb}
use Rattle.mcs_base.proofs.PartialLemmas.{fits-where, where-fits}
use Rattle.mcs_base.proofs.partial.Partial.fits.Goals as goal

pub returns : goal.returns
returns c = rw (← c.self.view_is, ← c.other.view_is) (
  (λ e. where-fits _ _ (sym c.common.ensures ∙ (Decides-eqb _ _).0 (sym c.eq.ensures ∙ e) ∙ c.common-2.ensures)),
  (λ h. c.eq.ensures ∙ (Decides-eqb _ _).1 (c.common.ensures ∙ fits-where _ _ c.self.invariant c.other.invariant h ∙ sym c.common-2.ensures)),
)
