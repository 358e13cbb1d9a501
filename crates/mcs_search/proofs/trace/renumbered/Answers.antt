use Rattle.std.proofs.Common.{◌-◌, ◌<◌, arith, get_or, length, rules}
use Rattle.mcs_search.proofs.NumberingLemmas.{at-number}
use Rattle.mcs_search.proofs.trace.renumbered.Goals as goal

pub overflow_sub-number : goal.overflow_sub-number
overflow_sub-number c = (at-number c.args.chain.now (length c.args.numbers.now) c.loop-number.number-index c.requires (omega arith)).0

pub bounds-numbers-number : goal.bounds-numbers-number
bounds-numbers-number c = let (some, most) = at-number c.args.chain.now (length c.args.numbers.now) c.loop-number.number-index c.requires (omega arith) in omega arith

pub offset_bounds-numbers-number : goal.offset_bounds-numbers-number
offset_bounds-numbers-number c =
    let less : get_or c.args.chain.now c.loop-number.number-index 0 - 1 < length c.args.numbers.now = (let (some, most) = at-number c.args.chain.now (length c.args.numbers.now) c.loop-number.number-index c.requires (omega arith) in omega arith) in
    search rules
