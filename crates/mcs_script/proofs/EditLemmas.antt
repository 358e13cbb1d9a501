-- Systems after allowed edits.
use Rattle.std.proofs.Common.{◌≡◌, ℕ, ◌+◌, ◌<◌, List, [], ◌∷◌, ◌++◌, map, take, length, get_or, refl, ap, ◌∙◌}
use Rattle.mcs_base.proofs.Mapped.{map-take_read}
use Rattle.mcs_system.specs.Plain.{System}
use Rattle.mcs_system.specs.Faults.{IsValid}
use Rattle.mcs_script.specs.declared.edit.Edit as code
use Rattle.mcs_script.specs.Edits.{Edit, AreAllowed, IsThere, edited, system_after}
use Rattle.mcs_script.specs.Seen.{edit_of}
use Rattle.mcs_script.proofs.ScriptLemmas.{after_more, edited_contexts}

pub after_contexts : (m : System) (es : List Edit) → (system_after m es).contexts ≡ m.contexts
after_contexts m [] = refl
after_contexts m (e ∷ es) = after_contexts (edited m e) es ∙ edited_contexts m e

pub after_valid : (m : System) (es : List Edit) → IsValid m → AreAllowed m es → IsValid (system_after m es)
after_valid m [] valid allowed = valid
after_valid m (e ∷ es) valid allowed = after_valid (edited m e) es allowed.1 allowed.2

-- one edit more is allowed
pub allowed_more : (m : System) (es : List Edit) (e : Edit) → AreAllowed m es → IsThere (system_after m es) e → IsValid (edited (system_after m es) e) → AreAllowed m (es ++ e ∷ [])
allowed_more m [] e allowed there valid = (there, valid, tt)
allowed_more m (d ∷ es) e allowed there valid = (allowed.0, allowed.1, allowed_more (edited m d) es e allowed.2 there valid)

-- the system after one edit more of those in code
pub after_next : (m : System) (edits : List code.Edit) (i : ℕ) (e : code.Edit) → i < length edits → e ≡ get_or edits i e → system_after m (map edit_of (take (i + 1) edits)) ≡ edited (system_after m (map edit_of (take i edits))) (edit_of e)
after_next m edits i e less at = ap (system_after m) (map-take_read edit_of edits i e less at) ∙ after_more m (map edit_of (take i edits)) (edit_of e)
