use Rattle.std.proofs.Common.{◌≡◌, ◌∙◌, ◌↔◌, IsTrue, ℕ, List, map, ap, subst}
use Rattle.std.proofs.lemmas.Slice.Eq.{slice_eq-Decides}
use Rattle.std.specs.Cmp.{unsigned_Decides}
use Rattle.mcs_system.specs.Systems.{variables_of}
use Rattle.mcs_system.specs.Views.{at_places}
use Rattle.mcs_certificate.proofs.acceptance.are_parts.Goals as goal

pub returns : goal.returns
returns c =
    let parts : c.as_slice.result.now ≡ map (at_places (variables_of c.args.system.now c.args.context)) c.args.views.now = c.as_slice.ensures.value ∙ c.in_ok-parts.ensures ∙ ap (λ (s : ℕ). map (at_places s) c.args.views.now) c.vars_of.ensures in
    subst (λ (ps : List ℕ). IsTrue c.eq.result ↔ (ps ≡ c.args.outputs.now)) parts (slice_eq-Decides unsigned_Decides c.as_slice.result.now c.args.outputs.now c.eq.result c.eq.ensures)
