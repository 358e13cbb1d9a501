use Rattle.std.proofs.Common.{ap, arith, ◌∙◌, List, map, sym, subst}
use Rattle.std.proofs.lemmas.List.{take_all}
use Rattle.mcs_system.specs.Edits.{with_rules}
use Rattle.mcs_system.specs.Faults.{IsValid}
use Rattle.mcs_system.specs.Plain.{System}
use Rattle.mcs_script.specs.Edits.{edited, system_after}
use Rattle.mcs_script.specs.Seen.{edit_of}
use Rattle.mcs_script.specs.declared.edit.Edit as code
use Rattle.mcs_script.proofs.EditLemmas.{after_next, after_valid}
use Rattle.mcs_script.proofs.edit.system_after.Goals as goal

pub loop-edit-init : goal.loop-edit-init
loop-edit-init c = ap (with_rules c.args.system.now) (c.in_ok-rules.ensures ∙ c.bridges.ensures.value)

pub loop-edit-preserved : goal.loop-edit-preserved
loop-edit-preserved c =
    c.in_ok-edit_rules.ensures c.args.system.now ∙ ap (λ (m : System). edited m (edit_of c.edit-item.result)) c.loop-edit.invariant
    ∙ sym (after_next c.args.system.now c.args.edits.now c.loop-edit.edit-index c.edit-item.result c.loop-edit-test.true c.edit-item.is)

pub with_valid_rules-requires : goal.with_valid_rules-requires
with_valid_rules-requires c =
    subst (λ (m : System). IsValid m) (sym (c.loop-edit.invariant ∙ ap (λ (es : List code.Edit). system_after c.args.system.now (map edit_of es)) (take_all c.loop-edit.edit-index c.args.edits.now (omega (arith, c.loop-edit-test.false)))))
    (after_valid c.args.system.now (map edit_of c.args.edits.now) c.bridges.ensures.valid c.requires)
