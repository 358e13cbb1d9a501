use Rattle.std.proofs.Common.{List, Option, sym, subst, ◌∙◌, arith, true≢false}
use Rattle.mcs_system.specs.Plain.{Name}
use Rattle.mcs_grammar.specs.Entries.{Token}
use Rattle.mcs_grammar.specs.Texts.{token_texts}
use Rattle.mcs_faults.specs.declared.fault.Fault as code_fault
use Rattle.mcs_language.specs.Ready.{IsReadyFor}
use Rattle.mcs_language.specs.Rules.{IsNextOfRule}
use Rattle.mcs_language.proofs.SpanLemmas.{inside}
use Rattle.mcs_language.proofs.RuleEnds.{rule-begun}
use Rattle.mcs_language.proofs.RuleSpans.{none-read, rule-cut, rule-told, rule-goes-on, rule-ended}
use Rattle.mcs_language.proofs.rules.RuleReader.read.Goals as goal

pub loop-alloc-init : goal.loop-alloc-init
loop-alloc-init c =
    let names : List Name = c.args.self in
    let ready : IsReadyFor names c.self.inside.reader = subst (λ (ns : List Name). IsReadyFor ns c.self.inside.reader) c.self.view_is c.self.invariant in
    record { inside = c.requires; read = none-read names c.args.bytes.now c.args.at c.in_ok-reader.reader (rule-begun names c.in_ok-reader.reader (c.in_ok-reader.ensures names ready.bare) ready.few) }

pub text-requires : goal.text-requires
text-requires c =
    let there = inside c.args.bytes.now c.loop-alloc.at c.next_token-from.result.0 c.next_token-from.result.1 c.next_token-from.ensures c.if-from-bytes.false in
    (there.1, there.2)

pub returns-then-from-bytes-clause-fault : goal.returns-then-from-bytes-clause-fault
returns-then-from-bytes-clause-fault c =
    rule-cut c.args.self c.args.bytes.now c.args.at c.loop-alloc.reader c.loop-alloc.reader c.loop-alloc.at c.next_token-from.result.0 c.next_token-from.result.1 c.loop-alloc.invariant.read c.next_token-from.ensures c.at.result c.if-from-bytes.true c.at.ensures

pub returns-in-Some-clause-fault : goal.returns-in-Some-clause-fault
returns-in-Some-clause-fault c =
    let there = inside c.args.bytes.now c.loop-alloc.at c.next_token-from.result.0 c.next_token-from.result.1 c.next_token-from.ensures c.if-from-bytes.false in
    let h = c.loop-alloc.invariant.read in
    let ts : List Token = token_texts c.args.bytes.now h.spans in
    rule-told c.args.self c.args.bytes.now c.args.at c.loop-alloc.reader c.take.new.reader c.loop-alloc.at c.next_token-from.result.0 c.next_token-from.result.1 h c.next_token-from.ensures there.0 c.text.result.now c.text.ensures c.in-Some.fault c.at-in-Some.result
    (subst (λ (o : Option code_fault.Fault). IsNextOfRule o c.args.self c.take.new.reader ts c.text.result.now) c.in-Some.is (c.in_ok-fault.ensures c.args.self ts h.read)) c.at-in-Some.ensures

pub finished-requires : goal.finished-requires
finished-requires c =
    let h = c.loop-alloc.invariant.read in
    let ts : List Token = token_texts c.args.bytes.now h.spans in
    let read = subst (λ (o : Option code_fault.Fault). IsNextOfRule o c.args.self c.take.new.reader ts c.text.result.now) c.in_default.is (c.in_ok-fault.ensures c.args.self ts h.read) in
    let ends = c.can_end.ensures.0 c.if-can_end.true in
    (c.args.self, (_, record { read = read; events = ends.0; ends = ends.1 }))

pub returns-then-can_end-clause-rule : goal.returns-then-can_end-clause-rule
returns-then-can_end-clause-rule c =
    let there = inside c.args.bytes.now c.loop-alloc.at c.next_token-from.result.0 c.next_token-from.result.1 c.next_token-from.ensures c.if-from-bytes.false in
    let h = c.loop-alloc.invariant.read in
    let ts : List Token = token_texts c.args.bytes.now h.spans in
    let read = subst (λ (o : Option code_fault.Fault). IsNextOfRule o c.args.self c.take.new.reader ts c.text.result.now) c.in_default.is (c.in_ok-fault.ensures c.args.self ts h.read) in
    let ends = c.can_end.ensures.0 c.if-can_end.true in
    rule-ended c.args.self c.args.bytes.now c.args.at c.loop-alloc.reader c.take.new.reader c.loop-alloc.at c.next_token-from.result.0 c.next_token-from.result.1 h c.next_token-from.ensures there.0 c.text.result.now c.text.ensures read ends.0 ends.1 c.finished.result
    (c.finished.ensures c.args.self _ (record { read = read; events = ends.0; ends = ends.1 }))

pub loop-alloc-preserved : goal.loop-alloc-preserved
loop-alloc-preserved c =
    let there = inside c.args.bytes.now c.loop-alloc.at c.next_token-from.result.0 c.next_token-from.result.1 c.next_token-from.ensures c.if-from-bytes.false in
    let h = c.loop-alloc.invariant.read in
    let ts : List Token = token_texts c.args.bytes.now h.spans in
    let read = subst (λ (o : Option code_fault.Fault). IsNextOfRule o c.args.self c.take.new.reader ts c.text.result.now) c.in_default.is (c.in_ok-fault.ensures c.args.self ts h.read) in
    record {
      inside = there.2;
      read = rule-goes-on c.args.self c.args.bytes.now c.args.at c.loop-alloc.reader c.take.new.reader c.loop-alloc.at c.next_token-from.result.0 c.next_token-from.result.1 h c.next_token-from.ensures there.0 c.text.result.now c.text.ensures read
          (λ xs r. true≢false (sym (c.can_end.ensures.1 (xs, r)) ∙ c.if-can_end.false));
    }

pub loop-alloc-smaller : goal.loop-alloc-smaller
loop-alloc-smaller c =
    let there = inside c.args.bytes.now c.loop-alloc.at c.next_token-from.result.0 c.next_token-from.result.1 c.next_token-from.ensures c.if-from-bytes.false in
    omega (arith, there, c.next_token-from.ensures.after)
