use Rattle.std.proofs.Common.{◌≡◌, map, count_by, sym, ap, ◌∙◌, arith}
use Rattle.mcs_system.specs.Faults.{is_default}
use Rattle.mcs_system.specs.Seen.{item_of, kb_of}
use Rattle.mcs_asking.specs.Kinds.{part_count}
use Rattle.mcs_asking.proofs.KindLemmas.{defaults_counted}
use Rattle.mcs_proof_reader.proofs.answer.take_certificate.Goals as goal

pub take_sets-requires-clause-few : goal.take_sets-requires-clause-few
take_sets-requires-clause-few c =
    let counted = defaults_counted (map item_of c.deref-in-DefaultTheory-3.result.now) in
    let same : count_by is_default (map item_of c.deref-in-DefaultTheory-3.result.now) ≡ part_count (kb_of c.args.kb.now) =
    ap (λ xs. count_by is_default (map item_of xs)) c.deref-in-DefaultTheory-3.ensures.value ∙ sym (ap (λ kb. part_count (kb_of kb)) c.in-DefaultTheory.is) in
    omega (arith, c.requires.few, counted, same)
