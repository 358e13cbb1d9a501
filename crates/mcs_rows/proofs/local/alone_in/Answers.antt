use Rattle.std.proofs.Common.{◌≡◌, ◌∙◌, ℕ, true, true≢false, sym, subst, arith}
use Rattle.mcs_sets.specs.Sets.{has, size}
use Rattle.mcs_sets.proofs.SetLemmas.{has-empty}
use Rattle.mcs_base.specs.Listings.{IsAmong}
use Rattle.mcs_base.proofs.Among.{among_at}
use Rattle.mcs_rows.proofs.KnownLemmas.{alone_more}
use Rattle.mcs_rows.proofs.local.alone_in.Goals.{then-count-eq1, else-count-eq1}
use Rattle.mcs_rows.proofs.local.alone_in.Goals as goal

pub loop-set-init : goal.loop-set-init
loop-set-init c s meets = absurd (true≢false (sym (subst (λ (z : ℕ). has z meets.member ≡ true) c.empty-alone.ensures meets.in_second) ∙ has-empty meets.member))

pub loop-set-preserved : goal.loop-set-preserved
loop-set-preserved c =
    let sets = c.args.sets.now in
    let set = c.set-item.result in
    elim c.if-count-eq1.branch [
      | then-count-eq1 w ↦
          let one : size set ≡ 1 = omega (arith, w.if-count-eq1.true, c.count.ensures.number) in
          let among : IsAmong set sets = subst (λ (z : ℕ). IsAmong z sets) (sym c.set-item.is) (among_at sets c.loop-set.set-index set c.loop-set-test.true) in
          rw (w.alone-is, w.union-alone.ensures) (alone_more sets c.loop-set.alone set among one c.loop-set.invariant)
      | else-count-eq1 w ↦ rw w.alone-is c.loop-set.invariant
    ]
