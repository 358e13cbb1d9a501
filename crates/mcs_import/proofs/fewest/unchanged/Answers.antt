use Rattle.std.proofs.Common.{◌+◌, ◌<◌, ◌≤◌, ◌∙◌, ◌↔◌, ℕ, refl, subst, arith}
use Rattle.std.proofs.lemmas.Grind.{get_or_default_zero}
use Rattle.mcs_base.specs.Listings.{IsAmong}
use Rattle.mcs_import.proofs.FewestLemmas.{front_begins, front_more, front_ends}
use Rattle.mcs_import.proofs.fewest.unchanged.Goals as goal

pub loop-set-init : goal.loop-set-init
loop-set-init c = front_begins (λ m x. IsAmong x c.args.sets.now) c.args.all.now 0 c.in_ok-fewest.fewest.items refl c.in_ok-fewest.ensures.items

pub loop-set-preserved : goal.loop-set-preserved
loop-set-preserved c =
    let x : ℕ = c.set-item.result in
    front_more (λ m x. IsAmong x c.args.sets.now) c.args.all.now c.loop-set.set-index c.unchanged_at.result (c.loop-set.set-index + 1) c.loop-set.fewest.items c.push.new.self.items
    c.loop-set.invariant c.loop-set-test.true c.in_ok-push.ensures.items
    (subst (λ (y : ℕ). (m : ℕ) → m < 255 → (c.unchanged_at.result ≤ m) ↔ IsAmong y c.args.sets.now) (c.set-item.is ∙ get_or_default_zero c.args.all.now c.loop-set.set-index x c.loop-set-test.true) c.unchanged_at.ensures) refl

pub returns : goal.returns
returns c = front_ends (λ m x. IsAmong x c.args.sets.now) c.args.all.now c.loop-set.set-index c.loop-set.fewest.items (omega arith) c.loop-set.invariant
