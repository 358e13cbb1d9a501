use Rattle.std.proofs.Common.{Option, subst, arith}
use Rattle.mcs_faults.specs.declared.fault.Fault as code_fault
use Rattle.mcs_language.specs.Progress.{IsNextRead}
use Rattle.mcs_language.proofs.SpanLemmas.{inside, none_before, all_read, one_more, told_there}
use Rattle.mcs_language.proofs.reading.Reading.read.Goals as goal

pub loop-alloc-init : goal.loop-alloc-init
loop-alloc-init c = record { inside = omega arith; before = none_before c.args.bytes.now c.args.self.now c.requires.begun }

pub returns-then-from-bytes-clause-all : goal.returns-then-from-bytes-clause-all
returns-then-from-bytes-clause-all c =
    all_read c.args.bytes.now c.loop-alloc.self c.loop-alloc.at c.next_token-from.result.0 c.next_token-from.result.1 c.loop-alloc.invariant.before c.next_token-from.ensures c.if-from-bytes.true

pub text-requires : goal.text-requires
text-requires c =
    let there = inside c.args.bytes.now c.loop-alloc.at c.next_token-from.result.0 c.next_token-from.result.1 c.next_token-from.ensures c.if-from-bytes.false in
    (there.1, there.2)

pub pass_tokens-requires : goal.pass_tokens-requires
pass_tokens-requires c = (inside c.args.bytes.now c.loop-alloc.at c.next_token-from.result.0 c.next_token-from.result.1 c.next_token-from.ensures c.if-from-bytes.false).2

pub returns-in-Some-clause-fault : goal.returns-in-Some-clause-fault
returns-in-Some-clause-fault c =
    let there = inside c.args.bytes.now c.loop-alloc.at c.next_token-from.result.0 c.next_token-from.result.1 c.next_token-from.ensures c.if-from-bytes.false in
    told_there c.args.bytes.now c.loop-alloc.self c.take.new.self c.loop-alloc.at c.next_token-from.result.0 c.next_token-from.result.1 c.text.result.now c.loop-alloc.invariant.before c.next_token-from.ensures there.0 c.text.ensures
    c.in-Some.fault c.at.result
    (λ ts k are is. subst (λ (f : Option code_fault.Fault). IsNextRead f c.take.new.self ts k) c.in-Some.is (c.in_ok-fault.ensures ts k are is))
    c.pass_tokens.ensures.0 c.pass_tokens.ensures.1 c.at.ensures

pub loop-alloc-preserved : goal.loop-alloc-preserved
loop-alloc-preserved c =
    let there = inside c.args.bytes.now c.loop-alloc.at c.next_token-from.result.0 c.next_token-from.result.1 c.next_token-from.ensures c.if-from-bytes.false in
    record {
      inside = there.2;
      before = one_more c.args.bytes.now c.loop-alloc.self c.take.new.self c.loop-alloc.at c.next_token-from.result.0 c.next_token-from.result.1 c.text.result.now c.loop-alloc.invariant.before c.next_token-from.ensures there.0 c.text.ensures
          (λ ts k are is. subst (λ (f : Option code_fault.Fault). IsNextRead f c.take.new.self ts k) c.in_default.is (c.in_ok-fault.ensures ts k are is));
    }

pub loop-alloc-smaller : goal.loop-alloc-smaller
loop-alloc-smaller c =
    let there = inside c.args.bytes.now c.loop-alloc.at c.next_token-from.result.0 c.next_token-from.result.1 c.next_token-from.ensures c.if-from-bytes.false in
    omega (arith, there, c.next_token-from.ensures.after)
