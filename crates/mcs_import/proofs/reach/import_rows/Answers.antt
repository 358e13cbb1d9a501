use Rattle.std.proofs.lemmas.List.{length-map}
use Rattle.mcs_system.specs.Seen.{context_of}
use Rattle.std.proofs.Common.{◌++◌, [], ◌∷◌, map, sym, ap, ◌∙◌, arith, ◌≡◌, length}
use Rattle.std.proofs.lemmas.List.FromFn.{map-range_with_len_more}
use Rattle.std.specs.List.{range_with_len}
use Rattle.mcs_import.specs.Reach.{import_row}
use Rattle.mcs_import.proofs.reach.import_rows.Goals as goal

pub loop-i-preserved : goal.loop-i-preserved
loop-i-preserved c =
    c.in_ok-push.ensures.items ∙ ap (λ xs. xs ++ c.imported_by.result ∷ []) c.loop-i.invariant
    ∙ ap (λ x. map (import_row c.args.system.now) (range_with_len 0 c.loop-i.i) ++ x ∷ []) c.imported_by.ensures
    ∙ sym (map-range_with_len_more (import_row c.args.system.now) 0 c.loop-i.i c.loop-i.i (omega arith))

pub overflow_cast-i-end : goal.overflow_cast-i-end
overflow_cast-i-end c = omega (arith, c.contexts.ensures.few)

pub imported_by-requires : goal.imported_by-requires
imported_by-requires c = omega (arith, c.loop-i-test.true, ap length c.contexts.ensures.value, length-map c.contexts.result.now context_of)

pub returns : goal.returns
returns c =
    let all : c.loop-i.i ≡ length c.args.system.now.contexts = omega (arith, c.loop-i-test.false, c.loop-i.auto.i-end, ap length c.contexts.ensures.value, length-map c.contexts.result.now context_of) in
    c.loop-i.invariant ∙ ap (λ n. map (import_row c.args.system.now) (range_with_len 0 n)) all
