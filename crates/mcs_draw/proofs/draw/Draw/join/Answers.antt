use Rattle.std.proofs.Common.{◌∙◌, ap, sym, arith}
use Rattle.atomic_table.specs.Table.{Me}
use Rattle.mcs_draw.specs.declared.account.View.{View}
use Rattle.mcs_draw.proofs.Steps.{join_allowed, look_allowed}
use Rattle.mcs_draw.proofs.draw.Draw.join.Goals as goal

pub join_seat-requires : goal.join_seat-requires
join_seat-requires c =
    let word = sym (ap (λ d. d.word) c.self.view_is) in (
      ap (λ s. s.word) c.seat.view_is ∙ c.requires.word.0 ∙ word,
      ap (λ s. s.word) c.other.view_is ∙ c.requires.word.1 ∙ word,
      c.other.invariant.empty,
      omega (arith, c.self.invariant.words),
      join_allowed c.self.inside.table.shared.key c.seat.inside.token.id c.other.inside.token.id c.seat.inside.token.me.0 c.other.inside.token.me.0 c.seat.invariant.present,
    )

pub load-requires : goal.load-requires
load-requires c = (
  c.join_seat.ensures.0 ∙ (ap (λ s. s.word) c.seat.view_is ∙ c.requires.word.0 ∙ sym (ap (λ d. d.word) c.self.view_is)),
  omega (arith, c.self.invariant.words),
  look_allowed c.self.inside.table.shared.key c.self.inside.table.shared.table_id.slots c.join_seat.new.seat.id c.join_seat.new.seat.me.0 c.join_seat.new.seat.me.1,
)

pub invariant_of-seat : goal.invariant_of-seat
invariant_of-seat c = let me = c.load.ensures.2.same ∙ c.join_seat.ensures.2 in record {
  present = ap (λ (m : Me (Unit {0}) View). m.0.away) me;
  empty = ap (λ (m : Me (Unit {0}) View). m.1) me ∙ c.seat.invariant.empty;
  left_is = omega (arith, c.seat.invariant.left_is, c.other.invariant.left_is, ap (λ (m : Me (Unit {0}) View). m.0.account.left) me);
  drawn_is = omega (arith, c.seat.invariant.drawn_is, c.other.invariant.drawn_is, ap (λ (m : Me (Unit {0}) View). m.0.account.drawn) me);
}
