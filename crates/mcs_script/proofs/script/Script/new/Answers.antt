use Rattle.std.proofs.Common.{map, sym, ap, ◌∙◌, refl}
use Rattle.std.proofs.lemmas.Simd.{map-map}
use Rattle.mcs_system.specs.Plain.{Context}
use Rattle.mcs_script.proofs.ScriptLemmas.{none_read}
use Rattle.mcs_script.proofs.script.Script.new.Goals as goal

pub returns-clause-script : goal.returns-clause-script
returns-clause-script c bytes = none_read c.args.system.now bytes _ (c.in_ok-rules.ensures ∙ (sym (map-map _ _ _) ∙ ap (map (λ (d : Context). d.name)) c.contexts.ensures.value)) c.in_ok-draft.ensures c.new-2.ensures.items refl
