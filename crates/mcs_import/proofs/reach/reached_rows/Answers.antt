use Rattle.std.proofs.Common.{◌≡◌, ◌+◌, ◌∙◌, length, sym, subst, ap, arith}
use Rattle.std.proofs.lemmas.List.{length-map}
use Rattle.std.proofs.Math.Seq.{take-append_seam}
use Rattle.mcs_system.specs.Seen.{context_of}
use Rattle.mcs_import.proofs.ReachLemmas.{ArePassed, rows_begin, rows_pass, rows_end}
use Rattle.mcs_import.specs.Reach.{rows_through}
use Rattle.mcs_import.proofs.reach.reached_rows.Goals as goal

pub loop-k-init : goal.loop-k-init
loop-k-init c = rows_begin c.args.system.now c.contexts.ensures.valid c.in_ok-rows.rows.items c.in_ok-rows.ensures

pub loop-k-preserved : goal.loop-k-preserved
loop-k-preserved c =
    let whole : c.loop-k.rows.len ≡ length c.pass_through.new.rows = omega (arith, c.pass_through.auto.rows, ap length c.deref_mut.ensures.value, c.loop-k.rows.ok) in
    subst (ArePassed c.args.system.now (c.loop-k.k + 1)) (sym (rw whole (take-append_seam c.pass_through.new.rows _)))
    (rows_pass c.args.system.now c.loop-k.k c.loop-k.rows.items c.pass_through.new.rows
    (omega (arith, c.loop-k-test.true, c.loop-k.invariant.one_each, ap length c.contexts.ensures.value, length-map c.contexts.result.now context_of))
    (c.pass_through.ensures ∙ ap (rows_through c.loop-k.k) c.deref_mut.ensures.value) c.loop-k.invariant)

pub returns : goal.returns
returns c = rows_end c.args.system.now c.loop-k.k c.loop-k.rows.items
    (omega (arith, c.loop-k-test.false, ap length c.contexts.ensures.value, length-map c.contexts.result.now context_of))
    (omega (arith, c.loop-k.auto.k-end, ap length c.contexts.ensures.value, length-map c.contexts.result.now context_of))
    c.loop-k.invariant
