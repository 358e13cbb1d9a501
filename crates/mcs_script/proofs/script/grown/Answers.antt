use Rattle.std.proofs.Common.{refl}
use Rattle.mcs_script.proofs.ScriptLemmas.{edit_told, script_grown}
use Rattle.mcs_script.proofs.script.grown.Goals as goal

pub returns-in-Ok-with : goal.returns-in-Ok-with
returns-in-Ok-with c m bytes at next = (script_grown m bytes at c.args.from c.args.draft c.in-Ok.draft c.args.edits.items c.args.read _ next c.in-Ok.ensures.system refl refl c.in-Ok-with.ensures refl, tt)

pub returns-in-Err : goal.returns-in-Err
returns-in-Err c m bytes at next = (tt, edit_told m bytes at c.args.from c.args.draft c.args.edits.items c.args.read next c.in-Err.fault c.in-Err.ensures.fault)
