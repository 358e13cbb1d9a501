use Rattle.std.proofs.Common.{◌≡◌, ◌+◌, ℕ, refl, subst, arith, length}
use Rattle.mcs_import.specs.Fewest.{fewest_at, AreTaken}
use Rattle.mcs_import.proofs.FewestLemmas.{taken_begins, taken_more}
use Rattle.mcs_import.proofs.fewest.with_rule.Goals as goal

pub loop-place-init : goal.loop-place-init
loop-place-init c = taken_begins (fewest_at c.args.fewest.now c.args.bit c.args.removable c.args.forcible) 0 c.in_ok-next.next.items refl c.in_ok-next.ensures.items

pub fewest_at-requires-clause-there : goal.fewest_at-requires-clause-there
fewest_at-requires-clause-there c = c.requires.closed c.loop-place.place (omega arith)

pub loop-place-preserved : goal.loop-place-preserved
loop-place-preserved c = taken_more (fewest_at c.args.fewest.now c.args.bit c.args.removable c.args.forcible) c.loop-place.place c.fewest_at.result (c.loop-place.place + 1) c.loop-place.next.items c.push.new.self.items
    c.loop-place.invariant c.in_ok-push.ensures.items c.fewest_at.ensures refl

pub returns : goal.returns
returns c =
    let all : c.loop-place.place ≡ length c.args.fewest.now = omega arith in
    subst (λ (n : ℕ). AreTaken (fewest_at c.args.fewest.now c.args.bit c.args.removable c.args.forcible) n c.loop-place.next.items) all c.loop-place.invariant
