use Rattle.std.proofs.Common.{Some, sym, ◌∙◌, refl}
use Rattle.std.proofs.lemmas.Option.{same_Some}
use Rattle.mcs_faults.proofs.NumberLemmas.{bytes-differ}
use Rattle.mcs_language.proofs.SpanLemmas.{inside}
use Rattle.mcs_script.proofs.reading.read_period.Goals as goal

pub returns-clause-other : goal.returns-clause-other
returns-clause-other c =
    let there = inside c.args.bytes.now c.args.at c.next_token-from.result.0 c.next_token-from.result.1 c.next_token-from.ensures c.if-from-bytes.false in (
      Some c.text.result.now,
      (c.next_token-from.result.1, c.next_token-from.ensures, there.0, c.text.ensures),
      λ e. bytes-differ c.text.result.now c.as_slice.result.now c.text.result.now c.eq.result refl c.eq.ensures c.if-eq.false (c.as_slice.ensures ∙ sym (same_Some _ _ e)),
    )
