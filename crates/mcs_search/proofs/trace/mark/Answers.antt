use Rattle.std.proofs.Common.{◌≡◌, ◌-◌, ◌∙◌, ◌+◌, inl, inr, ℕ, arith, true, get_or, length, subst}
use Rattle.std.proofs.lemmas.List.{length-set}
use Rattle.mcs_base.specs.Listings.{IsAmong}
use Rattle.mcs_base.proofs.Among.{among_at}
use Rattle.mcs_search.proofs.NumberingLemmas.{at-number, marked-more, set-kept, set-only}
use Rattle.mcs_search.proofs.trace.mark.Goals as goal

pub overflow_sub-index : goal.overflow_sub-index
overflow_sub-index c = (at-number c.args.numbers.now (length c.args.needed.now.items) c.loop-number.number-index c.requires (omega arith)).0

pub index_mut-requires : goal.index_mut-requires
index_mut-requires c =
    let (some, most) = at-number c.args.numbers.now (length c.args.needed.now.items) c.loop-number.number-index c.requires (omega arith) in
    let ok = c.loop-number.needed.ok.0 in
    let sized = c.loop-number.invariant.sized in
    omega arith

pub loop-number-preserved : goal.loop-number-preserved
loop-number-preserved c =
    let ns = c.args.numbers.now in
    let i = c.loop-number.number-index in
    let xs = c.loop-number.needed.items in
    let p : ℕ = get_or ns i 0 - 1 in
    let before = c.loop-number.invariant in
    let (some, most) = at-number ns (length c.args.needed.now.items) i c.requires (omega arith) in
    let sized = before.sized in
    record {
      sized = length-set xs p true ∙ sized;
      kept = λ j on. set-kept xs p j (omega arith) (before.kept j on);
      marked = marked-more xs ns i (omega arith) (omega arith) (omega arith) before.marked;
      only = λ j on. elim (set-only xs p j on) [
        | inl was ↦ before.only j was
        | inr e ↦ inr (let same : get_or ns i 0 ≡ j + 1 = omega arith in subst (λ (n : ℕ). IsAmong n ns) same (among_at ns i 0 (omega arith)))
      ];
    }
