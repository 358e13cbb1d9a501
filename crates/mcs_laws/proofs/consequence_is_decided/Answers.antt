use Rattle.std.proofs.Common.{inl, inr, sym, ◌∙◌, true≢false}
use Rattle.mcs_system.proofs.Deciding.{decide}
use Rattle.mcs_laws.proofs.consequence_is_decided.Goals as goal

pub returns : goal.returns
returns c formulas p = elim (decide formulas p) [
  | inl follows ↦ inl follows
  | inr other ↦ inr (λ follows. true≢false (sym (follows other.0 other.1) ∙ other.2))
]
