use Rattle.std.proofs.Common.{◌++◌, [], ◌∷◌, map, sym, ap, ◌∙◌, arith}
use Rattle.std.proofs.lemmas.List.{map-append}
use Rattle.std.proofs.lemmas.List.FromFn.{map-range_with_len_more}
use Rattle.std.specs.List.{range_with_len}
use Rattle.mcs_import.specs.Plans.{part, part_of}
use Rattle.mcs_import.proofs.share.shares.Goals as goal

pub loop-i-preserved : goal.loop-i-preserved
loop-i-preserved c =
    ap (map part_of) c.in_ok-push.ensures.items ∙ map-append part_of c.loop-i.shares.items (c.in_ok-share_of.field-0 ∷ [])
    ∙ ap (λ ps. ps ++ part_of c.in_ok-share_of.field-0 ∷ []) c.loop-i.invariant
    ∙ ap (λ p. map (part c.args.system.now c.args.order.now) (range_with_len 0 c.loop-i.i) ++ p ∷ []) c.in_ok-share_of.ensures
    ∙ sym (map-range_with_len_more (part c.args.system.now c.args.order.now) 0 c.loop-i.i c.loop-i.i (omega arith))
