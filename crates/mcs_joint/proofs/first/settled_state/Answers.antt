use Rattle.std.proofs.Common.{◌≡◌, ℕ, Bool, subst, arith}
use Rattle.mcs_joint.specs.First.{HaveJointRow, IsVariableSettled}
use Rattle.mcs_joint.proofs.Settling.{AreSettled, settled_begin, settled_false, settled_true, settled_end}
use Rattle.mcs_joint.proofs.first.settled_state.Goals.{then-holds, else-holds}
use Rattle.mcs_joint.proofs.first.settled_state.Goals as goal

pub loop-variable-init : goal.loop-variable-init
loop-variable-init c =
    let some : HaveJointRow c.args.level c.args.tables.items = subst (HaveJointRow c.args.level) c.deref.ensures.value (c.in_ok-have_joint_row.ensures.0 c.if-not-branch.false) in
    rw c.empty-first.ensures (settled_begin c.args.level c.args.tables.items c.requires.tables c.requires.apart some)

pub loop-variable-preserved : goal.loop-variable-preserved
loop-variable-preserved c =
    let v = c.loop-variable.variable in
    let first = c.loop-variable.first in
    let ts = c.args.tables.items in
    let us = c.loop-variable.left.items in
    let vs = c.settle.new.tables.items in
    let settled = λ (b : Bool) (e : c.in_ok-holds.holds ≡ b). subst (λ (h : Bool). IsVariableSettled c.args.level v h us vs) e c.in_ok-holds.ensures in
    elim c.if-holds.branch [
      | then-holds w ↦ rw (w.first-is, w.with-first.ensures) (settled_true c.args.level v first ts us vs c.loop-variable.invariant (settled _ w.if-holds.true))
      | else-holds w ↦ rw w.first-is (settled_false c.args.level v first ts us vs c.loop-variable.invariant (settled _ w.if-holds.false))
    ]

pub returns : goal.returns
returns c =
    let low = c.loop-variable-test.false in
    let high = c.loop-variable.auto.variable-end in
    let all : c.loop-variable.variable ≡ 64 = omega (arith, low, high) in
    let settled = subst (λ (n : ℕ). AreSettled c.args.level n c.loop-variable.first c.args.tables.items c.loop-variable.left.items) all c.loop-variable.invariant in
    settled_end c.args.level c.loop-variable.first c.args.tables.items c.loop-variable.left.items c.requires.tables settled
