use Rattle.std.proofs.Common.{◌+◌, ◌-◌, ◌/◌, ℕ, arith}
use Rattle.mcs_engine.proofs.chains.before_given.Goals as goal

pub overflow_sub-learnt : goal.overflow_sub-learnt
overflow_sub-learnt c =
    let m : ℕ = c.loop-low.low + (c.loop-low.high - c.loop-low.low) / 2 in
    let w = c.loop-low.invariant.within in
    let h = c.requires 0 m (omega arith) (omega arith) in
    omega arith

pub loop-low-preserved-then-learnt-middle : goal.loop-low-preserved-then-learnt-middle
loop-low-preserved-then-learnt-middle c =
    let m : ℕ = c.loop-low.low + (c.loop-low.high - c.loop-low.low) / 2 in
    let w = c.loop-low.invariant.within in
    record {
      order = omega arith;
      within = omega arith;
      before = c.loop-low.invariant.before;
      after = λ j low less. let h = c.requires m j low less in let first = c.requires 0 m (omega arith) (omega arith) in let t = c.if-learnt-middle.true in omega arith;
    }

pub loop-low-preserved : goal.loop-low-preserved
loop-low-preserved c =
    let m : ℕ = c.loop-low.low + (c.loop-low.high - c.loop-low.low) / 2 in
    let w = c.loop-low.invariant.within in
    record {
      order = omega arith;
      within = w;
      before = λ j less. let h = c.requires j m (omega arith) (omega arith) in let first = c.requires 0 m (omega arith) (omega arith) in let t = c.if-learnt-middle.false in omega arith;
      after = c.loop-low.invariant.after;
    }
