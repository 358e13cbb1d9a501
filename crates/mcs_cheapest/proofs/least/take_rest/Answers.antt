use Rattle.std.proofs.Common.{◌≡◌, ◌+◌, max, subst, arith}
use Rattle.mcs_states.proofs.Causes.{rest_kept}
use Rattle.mcs_cheapest.specs.Least.{IsAsking}
use Rattle.mcs_cheapest.proofs.LeastLemmas.{asking_breaks_off, asks_on}
use Rattle.mcs_cheapest.proofs.SearchLemmas.{searches_cut}
use Rattle.mcs_cheapest.proofs.least.take_rest.Goals as goal

pub loop-before-init : goal.loop-before-init
loop-before-init g c = record { above = omega arith; within = omega arith; going = c.requires; asking = λ first a up. a }

pub returns-in_err-reach : goal.returns-in_err-reach
returns-in_err-reach g c = λ first a up.
    let asking = c.loop-before.invariant.asking first a up in
    searches_cut _ _ _ _ _ c.from_residual.ensures.1
    (asking_breaks_off first (g.E.Evaluator.stands c.loop-before.evaluator) _ (c.loop-before.before + 1) asking (λ stop is. let high = up stop is in omega (arith, high, c.loop-before-test.true)) c.in_err-reach.ensures.rest _ c.in_err-reach.ensures.halt)
    (rest_kept _ _ _ asking.rest c.in_err-reach.ensures.rest)

pub loop-before-preserved : goal.loop-before-preserved
loop-before-preserved g c = record {
  above = omega (arith, c.loop-before.invariant.above);
  within = omega (arith, c.loop-before-test.true);
  going = c.in_ok-reach.ensures.done.settled.going;
  asking = λ first a up. asks_on first (g.E.Evaluator.stands c.loop-before.evaluator) _ (c.loop-before.before + 1) (c.loop-before.invariant.asking first a up) (λ stop is. let high = up stop is in omega (arith, high, c.loop-before-test.true)) c.in_ok-reach.ensures.rest c.in_ok-reach.ensures.done;
}

pub returns : goal.returns
returns g c = λ first a up.
    let asking = c.loop-before.invariant.asking first a up in
    let all : c.loop-before.before ≡ max c.args.level c.args.last = omega (arith, c.loop-before-test.false, c.loop-before.invariant.above, c.loop-before.invariant.within) in
    record { found = subst (λ k. IsAsking first (g.E.Evaluator.stands c.loop-before.evaluator) (k + 1)) all asking; stop = tt; rest = asking.rest }
