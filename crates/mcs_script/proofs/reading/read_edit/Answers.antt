use Rattle.std.proofs.Common.{◌<◌, length, codes, refl, sym, ◌∙◌, arith}
use Rattle.mcs_faults.proofs.NumberLemmas.{bytes-same, bytes-differ}
use Rattle.mcs_script.proofs.EditSpans.{word-to, other-told}
use Rattle.mcs_script.proofs.reading.read_edit.Goals as goal

pub returns-then-eq : goal.returns-then-eq
returns-then-eq c start next =
    c.read_added.ensures start (word-to c.args.bytes.now start c.args.span.from c.args.span.to next c.requires c.text-word.result.now (codes "add") c.text-word.ensures
    (sym c.as_slice.ensures ∙ bytes-same c.text-word.result.now c.as_slice.result.now c.text-word.result.now c.eq.result refl c.eq.ensures c.if-eq.true))

pub returns-then-eq-2 : goal.returns-then-eq-2
returns-then-eq-2 c start next =
    c.read_dropped.ensures start (word-to c.args.bytes.now start c.args.span.from c.args.span.to next c.requires c.text-word.result.now (codes "drop") c.text-word.ensures
    (sym c.as_slice-2.ensures ∙ bytes-same c.text-word.result.now c.as_slice-2.result.now c.text-word.result.now c.eq-2.result refl c.eq-2.ensures c.if-eq-2.true))

pub returns-then-eq-3 : goal.returns-then-eq-3
returns-then-eq-3 c start next =
    c.read_listed.ensures start (word-to c.args.bytes.now start c.args.span.from c.args.span.to next c.requires c.text-word.result.now (codes "list") c.text-word.ensures
    (sym c.as_slice-3.ensures ∙ bytes-same c.text-word.result.now c.as_slice-3.result.now c.text-word.result.now c.eq-3.result refl c.eq-3.ensures c.if-eq-3.true))

pub returns : goal.returns
returns c start next =
    let less : c.args.span.from < length c.args.bytes.now = omega (arith, c.requires.0, c.requires.1) in (
      tt,
      other-told c.args.rules c.args.bytes.now start c.args.span.from c.args.span.to next less c.text-word.result.now c.text-word.ensures
          (λ e. bytes-differ c.text-word.result.now c.as_slice.result.now c.text-word.result.now c.eq.result refl c.eq.ensures c.if-eq.false (c.as_slice.ensures ∙ sym e))
          (λ e. bytes-differ c.text-word.result.now c.as_slice-2.result.now c.text-word.result.now c.eq-2.result refl c.eq-2.ensures c.if-eq-2.false (c.as_slice-2.ensures ∙ sym e))
          (λ e. bytes-differ c.text-word.result.now c.as_slice-3.result.now c.text-word.result.now c.eq-3.result refl c.eq-3.ensures c.if-eq-3.false (c.as_slice-3.ensures ∙ sym e))
          c.at.result c.at.ensures,
    )
