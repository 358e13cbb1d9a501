use Rattle.std.proofs.Common.{◌≡◌, ◌∙◌, ◌≤◌, ℕ, Option, ap, subst, unwrap_or}
use Rattle.std.proofs.lemmas.Result.{IfOk-weaker}
use Rattle.mcs_system.specs.Plain.{System}
use Rattle.mcs_costs.specs.Settling.{IsSettling}
use Rattle.mcs_mesh.proofs.found.Found.cheapest.Goals as goal

pub settling_among-requires-clause-within : goal.settling_among-requires-clause-within
settling_among-requires-clause-within g c =
    let (d, is, less) = c.is_reached-2.ensures.yes c.if-is_reached.true in
    let found : c.unwrap_or-found.result ≡ d = c.unwrap_or-found.ensures ∙ ap (λ (o : Option ℕ). unwrap_or o c.args.level) is in
    rw found less

pub returns-then-is_reached-clause-told : goal.returns-then-is_reached-clause-told
returns-then-is_reached-clause-told g c = IfOk-weaker c.settling_among.result (IsSettling c.system.result.now c.args.level) (IsSettling c.args.plan.now c.args.level)
    (λ told settling. subst (λ (s : System). IsSettling s c.args.level told) c.system.ensures settling) c.settling_among.ensures
