use Rattle.mcs_laws.proofs.Barred.{kept_is_forced, closed_is_removed, barred_is_unrepaired, kept_is_asked, closed_is_not_asked, weights_are_limited}
use Rattle.mcs_laws.proofs.worked_rules.Goals as goal

pub returns : goal.returns
returns c = record { kept = kept_is_forced; closed = closed_is_removed; barred = barred_is_unrepaired; asked = kept_is_asked; not_asked = closed_is_not_asked; weights = weights_are_limited }
