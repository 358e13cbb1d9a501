use Rattle.std.proofs.Common.{◌≡◌, ◌+◌, ap, arith}
use Rattle.mcs_draw.proofs.Steps.{table_ends}
use Rattle.mcs_draw.proofs.draw.Draw.close.Goals as goal

-- the word that was read, as the seat accounts for it
ends : (c : goal.After-free) → (c.word-total.result ≡ c.args.self.base + c.args.seat.account.drawn) × (c.word-total.result ≡ c.args.seat.account.top)
ends c =
    let account = ap (λ s. s.account) c.seat.view_is in
    let drawn = ap (λ a. a.drawn) account in
    let whole : c.seat.inside.token.me.0.account.left + c.seat.inside.token.me.0.account.drawn ≡ c.self.inside.table.shared.key.room
    = omega (arith, c.requires.whole, ap (λ a. a.left) account, drawn, ap (λ d. d.room) c.self.view_is) in
    let (base, top) = table_ends c.self.inside.table.shared.key c.seat.inside.token.id c.word-total.result c.seat.inside.token.me.0 _ _ c.seat.invariant.present whole c.close_with-closed.ensures.values.2 c.word-total.ensures in (
      omega (arith, base, drawn, ap (λ d. d.base) c.self.view_is),
      omega (arith, top, ap (λ a. a.top) account),
    )

pub returns-clause-total : goal.returns-clause-total
returns-clause-total c = omega (arith, (ends c).0, c.seat.invariant.drawn_is, ap (λ s. s.account.drawn) c.seat.view_is)

pub returns-clause-top : goal.returns-clause-top
returns-clause-top c = (ends c).1
