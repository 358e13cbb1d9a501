use Rattle.std.proofs.Common.{◌≡◌, ◌+◌}
use Rattle.mcs_draw_tests.proofs.threads.draw_all.Given as goal

abbrev pub invariant-loop-seat : goal.invariant-loop-seat
invariant-loop-seat l = (l.seat.word ≡ l.fn.seat.word) × (l.seat.account.left + l.seat.account.drawn ≡ l.fn.seat.account.left + l.fn.seat.account.drawn)

abbrev pub decreases-loop-seat : goal.decreases-loop-seat
decreases-loop-seat l = l.seat.account.left
