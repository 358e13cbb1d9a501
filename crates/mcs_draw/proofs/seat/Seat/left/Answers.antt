use Rattle.std.proofs.Common.{◌∙◌, ap}
use Rattle.mcs_draw.proofs.seat.Seat.left.Goals as goal

pub returns : goal.returns
returns c = c.self.invariant.left_is ∙ ap (λ s. s.account.left) c.self.view_is
