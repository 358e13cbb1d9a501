use Rattle.std.proofs.Common.{ap, arith, length}
use Rattle.mcs_base.proofs.Among.{no_image_more}
use Rattle.mcs_system.specs.declared.knowledge.Context as code_context
use Rattle.mcs_faults.proofs.NumberLemmas.{bytes-same, bytes-differ, number-here, number-none}
use Rattle.mcs_language.proofs.rule.number_of.Goals as goal

pub returns-then-eq : goal.returns-then-eq
returns-then-eq c =
    number-here (λ (s : code_context.Context). s.name) c.args.reader.now.account.contexts.items c.loop-number.number c.context-item.result c.args.name.now (omega (arith, ap length c.deref-context-items.ensures.value)) (rw c.deref-context-items.ensures.value at c.context-item.is) (bytes-same c.context-item.result.name c.args.name.now c.bytes.result.now c.eq.result c.bytes.ensures.value c.eq.ensures c.if-eq.true)

pub loop-number-preserved : goal.loop-number-preserved
loop-number-preserved c =
    no_image_more (λ (s : code_context.Context). s.name) c.args.reader.now.account.contexts.items c.loop-number.number c.context-item.result c.args.name.now (omega (arith, ap length c.deref-context-items.ensures.value)) (rw c.deref-context-items.ensures.value at c.context-item.is) (bytes-differ c.context-item.result.name c.args.name.now c.bytes.result.now c.eq.result c.bytes.ensures.value c.eq.ensures c.if-eq.false) c.loop-number.invariant

pub returns : goal.returns
returns c =
    number-none (λ (s : code_context.Context). s.name) c.args.reader.now.account.contexts.items c.loop-number.number c.len.result c.args.name.now (omega (arith, ap length c.deref-context-items.ensures.value)) (omega (arith, c.args.reader.now.account.contexts.ok.0)) c.loop-number.invariant
