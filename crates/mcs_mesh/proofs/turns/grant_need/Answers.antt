use Rattle.std.proofs.Common.{◌∙◌, sym, inl, inr, refl}
use Rattle.std.proofs.lemmas.Result.{err_from_is_err_and}
use Rattle.mcs_mesh.proofs.turns.grant_need.Goals as goal

pub returns-in_err-total-clause-stopped : goal.returns-in_err-total-clause-stopped
returns-in_err-total-clause-stopped g c =
    let p = err_from_is_err_and c.from_residual.result c.from_residual.ensures.1 in
    rw (p.1) (inl refl)

pub returns-in-Some-stopped-clause-stopped : goal.returns-in-Some-stopped-clause-stopped
returns-in-Some-stopped-clause-stopped g c = inr (record { total = c.in_ok-total.total; granted = c.grant.ensures; halt = c.in-Some-stopped.halt; told = sym c.stopped.ensures ∙ c.in-Some-stopped.is })
