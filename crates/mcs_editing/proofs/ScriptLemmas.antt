-- The edits that a script spells can be listed.
use Rattle.std.proofs.Common.{ℕ, List, [], ◌∷◌, arith}
use Rattle.mcs_system.specs.Plain.{System}
use Rattle.mcs_script.specs.Edits.{Edit, AreAllowed, edited}
use Rattle.mcs_script.specs.Scripts.{SpellsEdits}
use Rattle.mcs_script.proofs.ScriptLemmas.{edits_take_bytes}
use Rattle.mcs_editing.specs.Laws.{ScriptsCanBeListed}

edits_allowed : (m : System) (bytes : List ℕ) (at end : ℕ) (es : List Edit) → SpellsEdits m bytes at es end → AreAllowed m es
edits_allowed m bytes at end [] spelled = tt
edits_allowed m bytes at end (e ∷ es) (next, one, rest) = (one.there, one.valid, edits_allowed (edited m e) bytes next end es rest)

-- each edit takes a byte at least
pub scripts_can_be_listed : ScriptsCanBeListed
scripts_can_be_listed m bytes es script short = record {
  allowed = edits_allowed m bytes 0 script.end es script.spelled;
  few = (let taken = edits_take_bytes m bytes 0 script.end es script.spelled in let inside = script.ended.after in omega (arith, taken, inside, short));
}
