use Rattle.std.proofs.Common.{◌∙◌, ap, length, Ok, refl, arith}
use Rattle.std.proofs.lemmas.Iterator.{YieldsList-from_range, items_from_collect}
use Rattle.std.proofs.lemmas.List.{length-map}
use Rattle.std.specs.List.{range_with_len}
use Rattle.mcs_system.specs.Plain.{System}
use Rattle.mcs_system.specs.Seen.{context_of}
use Rattle.mcs_mesh.proofs.tables.all_contexts.Goals as goal

pub returns : goal.returns
returns c = items_from_collect {E = Unit {0}} (Ok c.in_ok-all.all) c.in_ok-all.ensures.ran (YieldsList-from_range 0 (length c.contexts.result.now) (length c.contexts.result.now) refl (omega arith))
    ∙ ap (range_with_len 0) (omega (arith, ap length c.contexts.ensures.value, length-map c.contexts.result.now context_of, ap (λ (m : System). length m.contexts) c.system.ensures))
