use Rattle.std.proofs.Common.{◌+◌, ◌∙◌, ap, sym, arith}
use Rattle.mcs_draw.proofs.Steps.{draw_allowed}
use Rattle.mcs_draw.specs.declared.account.View.{View}
use Rattle.mcs_draw.specs.Budget.{after_draw}
use Rattle.mcs_draw.proofs.draw.Draw.draw.Goals as goal

pub fetch_add-found-requires : goal.fetch_add-found-requires
fetch_add-found-requires c =
    let word = ap (λ s. s.word) c.seat.view_is ∙ c.requires.word ∙ sym (ap (λ d. d.word) c.self.view_is) in
    let left = ap (λ s. s.account.left) c.seat.view_is in (
      word,
      omega (arith, c.self.invariant.words),
      draw_allowed c.self.inside.table.shared.key c.self.inside.table.shared.table_id.slots c.seat.inside.token.id c.args.amount c.seat.inside.token.me.0 c.seat.inside.token.me.1
          c.seat.invariant.present (omega (arith, c.requires.amount, left)),
    )

pub returns-clause-account : goal.returns-clause-account
returns-clause-account c = ap (λ (v : View). v.account) c.fetch_add-found.ensures.2.view ∙ ap (λ s. after_draw c.args.amount (c.fetch_add-found.result + c.args.amount) s.account) c.seat.view_is

pub invariant_of-seat : goal.invariant_of-seat
invariant_of-seat c = let view = c.fetch_add-found.ensures.2.view in record {
  present = ap (λ (v : View). v.away) view;
  empty = c.fetch_add-found.ensures.2.slots ∙ c.seat.invariant.empty;
  left_is = omega (arith, c.seat.invariant.left_is, ap (λ (v : View). v.account.left) view);
  drawn_is = omega (arith, c.seat.invariant.drawn_is, ap (λ (v : View). v.account.drawn) view);
}
