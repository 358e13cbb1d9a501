use Rattle.std.proofs.Common.{◌∙◌, List, map, ap, arith}
use Rattle.std.proofs.lemmas.Result.{IfOk-weaker}
use Rattle.mcs_system.specs.Plain.{Default}
use Rattle.mcs_system.specs.Seen.{default_of}
use Rattle.mcs_evidence.specs.Defaults.{defaults_at}
use Rattle.mcs_extensions.proofs.theory.added.Goals as goal

pub chosen-requires : goal.chosen-requires
chosen-requires c = omega (arith, c.args.theory.now.few_defaults)

pub returns : goal.returns
returns c = IfOk-weaker c.consequents.result _ _ (λ fs is.
    is ∙ ap (map (λ (d : Default). d.conclusion)) (ap (map (λ d. default_of d.now)) c.deref.ensures.value ∙ c.in_ok-inside.ensures ∙ ap (λ (ds : List Default). defaults_at 0 ds c.args.set) c.args.theory.now.are)) c.consequents.ensures
