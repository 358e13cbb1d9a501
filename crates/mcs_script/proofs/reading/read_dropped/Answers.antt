use Rattle.std.proofs.Common.{Option, subst}
use Rattle.mcs_faults.specs.declared.fault.Fault as code_fault
use Rattle.mcs_language.proofs.SpanLemmas.{inside}
use Rattle.mcs_script.specs.Reading.{IsNameFault}
use Rattle.mcs_script.proofs.EditSpans.{dropped-cut, dropped-name, dropped-open, dropped-answer}
use Rattle.mcs_script.proofs.reading.read_dropped.Goals as goal

pub returns-then-from-bytes : goal.returns-then-from-bytes
returns-then-from-bytes c start word = (tt, dropped-cut c.args.rules c.args.bytes.now start c.args.at word c.next_token-from.result.0 c.next_token-from.result.1 c.next_token-from.ensures c.if-from-bytes.true c.at.result c.at.ensures)

pub returns-in-Some : goal.returns-in-Some
returns-in-Some c start word =
    let there = inside c.args.bytes.now c.args.at c.next_token-from.result.0 c.next_token-from.result.1 c.next_token-from.ensures c.if-from-bytes.false in (
      tt,
      dropped-name c.args.rules c.args.bytes.now start c.args.at word c.next_token-from.result.0 c.next_token-from.result.1 c.next_token-from.ensures there.0 c.text-name.result.now c.text-name.ensures c.in-Some.fault
          (subst (λ (o : Option code_fault.Fault). IsNameFault o c.text-name.result.now) c.in-Some.is c.name_fault.ensures) c.at-in-Some.result c.at-in-Some.ensures,
    )

pub returns-in-Ok : goal.returns-in-Ok
returns-in-Ok c start word =
    let there = inside c.args.bytes.now c.args.at c.next_token-from.result.0 c.next_token-from.result.1 c.next_token-from.ensures c.if-from-bytes.false in
    dropped-answer c.args.rules c.args.bytes.now start c.args.at word c.next_token-from.result.0 c.next_token-from.result.1 c.next_token-from.ensures there.0 c.text-name.result.now c.text-name.ensures
    (subst (λ (o : Option code_fault.Fault). IsNameFault o c.text-name.result.now) c.in_default.is c.name_fault.ensures) c.in-Ok.end c.in-Ok.ensures.period c.dropped.result c.dropped.ensures.edit c.dropped.ensures.memory

pub returns-in-Err : goal.returns-in-Err
returns-in-Err c start word =
    let there = inside c.args.bytes.now c.args.at c.next_token-from.result.0 c.next_token-from.result.1 c.next_token-from.ensures c.if-from-bytes.false in (
      tt,
      dropped-open c.args.rules c.args.bytes.now start c.args.at word c.next_token-from.result.0 c.next_token-from.result.1 c.next_token-from.ensures there.0 c.text-name.result.now c.text-name.ensures
          (subst (λ (o : Option code_fault.Fault). IsNameFault o c.text-name.result.now) c.in_default.is c.name_fault.ensures) c.in-Err.offset c.in-Err.ensures.other c.at-in-Err.result c.at-in-Err.ensures,
    )
