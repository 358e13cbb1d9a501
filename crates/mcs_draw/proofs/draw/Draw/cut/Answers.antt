use Rattle.std.proofs.Common.{◌∙◌, ap, sym, arith}
use Rattle.atomic_table.specs.Table.{Me}
use Rattle.mcs_draw.specs.declared.account.View.{View}
use Rattle.mcs_draw.proofs.Steps.{split_allowed}
use Rattle.mcs_draw.proofs.draw.Draw.cut.Goals as goal

pub split_seat-token-requires : goal.split_seat-token-requires
split_seat-token-requires g c =
    let word = ap (λ s. s.word) c.seat.view_is ∙ c.requires.word ∙ sym (ap (λ d. d.word) c.self.view_is) in
    let left = ap (λ s. s.account.left) c.seat.view_is in (
      word,
      omega (arith, c.self.invariant.words),
      split_allowed c.self.inside.table.shared.key c.seat.inside.token.id g.P.Part.part c.seat.inside.token.me.0 c.seat.invariant.present
          (omega (arith, c.requires.picked, c.requires.part.0)) (omega (arith, c.requires.picked, c.requires.part.1, left)),
    )

pub invariant_of-seat : goal.invariant_of-seat
invariant_of-seat g c = let me = c.split_seat-token.ensures.2 in record {
  present = ap (λ (m : Me (Unit {0}) View). m.0.away) me;
  empty = ap (λ (m : Me (Unit {0}) View). m.1) me ∙ c.seat.invariant.empty;
  left_is = omega (arith, c.seat.invariant.left_is, c.requires.picked, ap (λ (m : Me (Unit {0}) View). m.0.account.left) me);
  drawn_is = omega (arith, c.seat.invariant.drawn_is, ap (λ (m : Me (Unit {0}) View). m.0.account.drawn) me);
}
