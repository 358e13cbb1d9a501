use Rattle.std.proofs.Common.{◌++◌, [], ◌∷◌, length, map, sym, ap, ◌∙◌, arith}
use Rattle.std.proofs.lemmas.List.FromFn.{map-range_with_len_more}
use Rattle.std.proofs.lemmas.List.{length-map}
use Rattle.mcs_system.specs.Seen.{context_of}
use Rattle.std.specs.List.{range_with_len}
use Rattle.mcs_import.specs.Reach.{ahead_row}
use Rattle.mcs_import.proofs.ReachLemmas.{rows_ahead, rows_same}
use Rattle.mcs_import.proofs.reach.ahead_rows.Goals as goal

pub loop-i-preserved : goal.loop-i-preserved
loop-i-preserved c =
    c.in_ok-push.ensures.items ∙ ap (λ xs. xs ++ c.ahead_of.result ∷ []) c.loop-i.invariant
    ∙ ap (λ x. map (ahead_row c.in_ok-reached.reached.items) (range_with_len 0 c.loop-i.i) ++ x ∷ []) (c.ahead_of.ensures ∙ ap (λ rs. ahead_row rs c.loop-i.i) c.deref.ensures.value)
    ∙ sym (map-range_with_len_more (ahead_row c.in_ok-reached.reached.items) 0 c.loop-i.i c.loop-i.i (omega arith))

pub returns-clause-rows : goal.returns-clause-rows
returns-clause-rows c = rows_ahead c.args.system.now c.contexts.ensures.valid c.in_ok-reached.reached.items c.loop-i.rows.items c.in_ok-reached.ensures
    (rows_same c.args.system.now c.in_ok-reached.reached.items c.loop-i.rows.items c.loop-i.i c.in_ok-reached.ensures
    (omega (arith, c.loop-i-test.false, ap length c.contexts.ensures.value, length-map c.contexts.result.now context_of))
    (omega (arith, c.loop-i.auto.i-end, ap length c.contexts.ensures.value, length-map c.contexts.result.now context_of)) c.loop-i.invariant)

pub overflow_cast-contexts : goal.overflow_cast-contexts
overflow_cast-contexts c = omega (arith, c.contexts.ensures.few)

pub returns-in_err-reached-clause-few : goal.returns-in_err-reached-clause-few
returns-in_err-reached-clause-few c = omega (arith, c.contexts.ensures.few, ap length c.contexts.ensures.value, length-map c.contexts.result.now context_of)

pub returns-in_err-reached-clause-valid : goal.returns-in_err-reached-clause-valid
returns-in_err-reached-clause-valid c = c.contexts.ensures.valid

pub ahead_of-requires-clause-in_range : goal.ahead_of-requires-clause-in_range
ahead_of-requires-clause-in_range c = omega (arith, c.loop-i-test.true, ap length c.deref.ensures.value, c.in_ok-reached.ensures.one_each, ap length c.contexts.ensures.value, length-map c.contexts.result.now context_of)

pub ahead_of-requires-clause-few : goal.ahead_of-requires-clause-few
ahead_of-requires-clause-few c = omega (arith, c.contexts.ensures.few, ap length c.deref.ensures.value, c.in_ok-reached.ensures.one_each, ap length c.contexts.ensures.value, length-map c.contexts.result.now context_of)

pub returns-in_err-push-clause-few : goal.returns-in_err-push-clause-few
returns-in_err-push-clause-few c = omega (arith, c.contexts.ensures.few, ap length c.contexts.ensures.value, length-map c.contexts.result.now context_of)

pub returns-in_err-push-clause-valid : goal.returns-in_err-push-clause-valid
returns-in_err-push-clause-valid c = c.contexts.ensures.valid

pub returns-clause-few : goal.returns-clause-few
returns-clause-few c = omega (arith, c.contexts.ensures.few, ap length c.contexts.ensures.value, length-map c.contexts.result.now context_of)

pub returns-clause-valid : goal.returns-clause-valid
returns-clause-valid c = c.contexts.ensures.valid
